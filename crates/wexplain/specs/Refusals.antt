-- What a refused subcommand has printed, and what an explanation of it begins with.
use Rattle.std.specs.Prelude.{◌≡◌, ◌≢◌, ◌==◌, ◌||◌, ◌++◌, ⊤, ℕ, Bool, List, [], ◌∷◌, codes}
use Rattle.std.specs.List.{before_first}
use Rattle.wshown.specs.Shown.{BeginsWith}
use Rattle.wsentences.specs.Labels.{file_label, name_label, query_label, segment_label, table_label}
use Rattle.wsegment.specs.Declaration.{Declaration, declaration_text}
use Rattle.wsegment.specs.Spelling.{IsDeclaration}
use Rattle.wplanner.specs.declared.fault.AskFault.{AskFault}
use Rattle.wplanner.specs.declared.fault.AskFault.TheVariants as queries
use Rattle.wexplain.specs.declared.reply.Refusal.{Refusal}
use Rattle.wexplain.specs.declared.reply.Refusal.TheVariants as refusals

-- a space or a line feed
abbrev pub ends_label : ℕ → Bool
ends_label b = (b == 32) || (b == 10)

-- the label of a refusal: what stands in front of the first space or line feed
abbrev pub label_in : List ℕ → List ℕ
label_in line = before_first ends_label line

-- the reply of a refusal that tells nothing but its label
abbrev pub refusal_line : List ℕ → List ℕ
refusal_line label = codes "refused " ++ (label ++ (10 ∷ []))

-- a reply tells a refusal, which has a label, and a text begins with it
pub record Explains (reply text : List ℕ) : Type 0 where
  pub line : List ℕ
  pub is : reply ≡ codes "refused " ++ line
  pub filled : label_in line ≢ []
  pub label : BeginsWith (label_in line) text

-- a reply tells the refusal of a query
pub record RefusesQuery (reply : List ℕ) : Type 0 where
  pub line : List ℕ
  pub fault : AskFault
  pub is : reply ≡ codes "refused " ++ line
  pub told : fault ≢ queries.NoMemory
  pub label : label_in line ≡ query_label fault

-- bytes declare a table
abbrev pub IsDeclared : List ℕ → Type 0
IsDeclared bytes = (d : Declaration) × IsDeclaration d × (bytes ≡ declaration_text d)

-- ---- with the fault that it tells

-- a refusal has this label
abbrev pub IsCalled : Refusal → List ℕ → Type 0
IsCalled (refusals.Declaration fault) label = label ≡ table_label fault
IsCalled (refusals.Name fault) label = label ≡ name_label fault
IsCalled (refusals.Segment fault) label = label ≡ segment_label fault
IsCalled (refusals.File fault) label = label ≡ file_label fault
IsCalled (refusals.Query fault) label = label ≡ query_label fault
IsCalled refusals.Stream label = label ≡ codes "B1"

-- a reply tells a refusal of this label
pub record Refuses (reply : List ℕ) (refusal : Refusal) : Type 0 where
  pub line : List ℕ
  pub is : reply ≡ codes "refused " ++ line
  pub filled : label_in line ≢ []
  pub called : IsCalled refusal (label_in line)

-- a text begins with the label of a refusal
abbrev pub BeginsWithLabel : Refusal → List ℕ → Type 0
BeginsWithLabel (refusals.Declaration fault) text = BeginsWith (table_label fault) text
BeginsWithLabel (refusals.Name fault) text = BeginsWith (name_label fault) text
BeginsWithLabel (refusals.Segment fault) text = BeginsWith (segment_label fault) text
BeginsWithLabel (refusals.File fault) text = BeginsWith (file_label fault) text
BeginsWithLabel (refusals.Query fault) text = BeginsWith (query_label fault) text
BeginsWithLabel refusals.Stream text = BeginsWith (codes "B1") text

-- a name or a declaration is refused, and explained by what was given alone
abbrev pub IsOfWords : Refusal → Type 0
IsOfWords (refusals.Declaration _) = ⊤
IsOfWords (refusals.Name _) = ⊤
IsOfWords _ = ⊥

-- a query is refused
abbrev pub IsOfQuery : Refusal → Type 0
IsOfQuery (refusals.Query _) = ⊤
IsOfQuery _ = ⊥
