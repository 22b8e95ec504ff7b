-- An input has one run in which no want of memory has part.
use Rattle.std.proofs.Common.{◌≡◌, ℕ, List, [], ◌∷◌, map, Option, None, Some, Result, Ok, Err, inl, inr, refl, sym, subst}
use Rattle.std.specs.List.{AllByRecursion}
use Rattle.wvalues.specs.Names.{NameParts}
use Rattle.wvalues.specs.Meaning.{Meaning}
use Rattle.wvalues.specs.declared.name.NameFault.{NameFault}
use Rattle.wsegment.specs.Declaration.{Declaration}
use Rattle.wsegment.specs.Rows.{rows_of}
use Rattle.wsegment.specs.Spelling.{IsDeclaration}
use Rattle.wsegment.specs.declared.fault.SegmentFault.{SegmentFault}
use Rattle.wset.specs.Views.{View}
use Rattle.wexchange.specs.declared.fault.FileFault.{FileFault}
use Rattle.wplanner.specs.declared.fault.AskFault.{AskFault}
use Rattle.wscript.specs.Commands.{Command, Declare, Take, Retire, RetireTo, Listing, Ask, Feed, Put, Get}
use Rattle.wstore.specs.Replies.{Reply, Declared, RefusedTable, Took, Was, RefusedName, RefusedSegment}
use Rattle.wstore.specs.Replies.{Names, Answered, RefusedQuery, Fed, Done, RefusedFile, NoMemory}
use Rattle.wstore.specs.History.{Step, Answers, AnswersUnder, declaration, is_bad, segment_reply}
use Rattle.wstore.specs.History.{take_reply, retire_reply, floor_reply, query_reply, file_reply}
use Rattle.wstore.specs.Runs.{Ran}
use Rattle.wstore.specs.Laws.{HasMemory, IsOfTable, OneRun}
use Rattle.wstore.proofs.OneReading.{one_reading}
use Rattle.wstore.proofs.OneReply.{fed_of, one_reply}

-- ---- what is declared

no_segment : (d : Declaration) (rows : Result (List (List Meaning)) SegmentFault) (v : View) (name : NameParts)
    (bytes : List ℕ) → Declared d ≡ segment_reply rows v name bytes → ⊥
no_segment d (Ok rows) v name bytes e = cc
no_segment d (Err fault) v name bytes e = cc

no_take : (d e : Declaration) (name : Result NameParts NameFault) (v : View) (bytes : List ℕ) → Declared d ≡ take_reply name e v bytes → ⊥
no_take d e (Ok name) v bytes is = no_segment d (rows_of e bytes) v name bytes is
no_take d e (Err fault) v bytes is = cc

no_retire : (d : Declaration) (name : Result NameParts NameFault) (v : View) → Declared d ≡ retire_reply name v → ⊥
no_retire d (Ok name) v e = cc
no_retire d (Err fault) v e = cc

no_floor : (d : Declaration) (name : Result NameParts NameFault) (v : View) → Declared d ≡ floor_reply name v → ⊥
no_floor d (Ok name) v e = cc
no_floor d (Err fault) v e = cc

no_query : (d : Declaration) (answer : Result (List ℕ) AskFault) → Declared d ≡ query_reply answer → ⊥
no_query d (Ok bytes) e = cc
no_query d (Err fault) e = cc

no_file : (d : Declaration) (judged : Result View FileFault) → Declared d ≡ file_reply judged → ⊥
no_file d (Ok view) e = cc
no_file d (Err fault) e = cc

no_other : (d : Declaration) (r : Reply) → Declared d ≡ r → r ≡ Done → ⊥
no_other d r e f = cc

-- what a reply declares is a declaration
under_declares : (o : Option Declaration) (h : List Step) (c : Command) (d : Declaration) → AnswersUnder o h c (Declared d)
    → IsDeclaration d
under_declares None h (Declare bytes) d a = a.0
under_declares None h (Take n o m bytes) d a = absurd a
under_declares None h (Retire n o m) d a = absurd a
under_declares None h (RetireTo n o m) d a = absurd a
under_declares None h (Listing n) d a = absurd a
under_declares None h (Ask n text) d a = absurd a
under_declares None h (Feed n piece) d a = absurd a
under_declares None h (Put n k) d a = absurd a
under_declares None h (Get k n) d a = absurd a
under_declares (Some e) h (Declare bytes) d a = absurd a
under_declares (Some e) h (Take n o m bytes) d a = absurd (no_take d e a.0 _ bytes a.2)
under_declares (Some e) h (Retire n o m) d a = absurd (no_retire d a.0 _ a.2)
under_declares (Some e) h (RetireTo n o m) d a = absurd (no_floor d a.0 _ a.2)
under_declares (Some e) h (Listing n) d a = absurd (cc)
under_declares (Some e) h (Ask n text) d a = absurd (no_query d a.0 a.2)
under_declares (Some e) h (Feed n piece) d a = let fed = fed_of (is_bad h n) e h n piece (Declared d) a in let is = fed.is in absurd (cc)
under_declares (Some e) h (Put n k) d a = absurd (no_other d Done a refl)
under_declares (Some e) h (Get k n) d a = absurd (no_file d a.judged a.reply_is)

declares : (h : List Step) (c : Command) (d : Declaration) → Answers h c (Declared d) → IsDeclaration d
declares h c d a = elim a [ inl x ↦ under_declares (declaration h) h c d x | inr x ↦ absurd (never d x.1) ]
  where
    never : (d : Declaration) → Declared d ≡ NoMemory → ⊥
    never d e = cc

-- the table of a history, where one is declared, is a declaration
abbrev HasTable : List Step → Type 0
HasTable h = (d : Declaration) → declaration h ≡ Some d → IsDeclaration d

no_table : HasTable []
no_table d e = absurd (never d e)
  where
    never : (d : Declaration) → None ≡ Some d → ⊥
    never d e = cc

same_table : (d e : Declaration) → Some d ≡ Some e → d ≡ e
same_table d e is = cc

still_table : (h : List Step) (c : Command) (r : Reply) → HasTable h → Answers h c r → HasTable (record { command = c; reply = r } ∷ h)
still_table h c (Declared e) table a = λ d is. subst IsDeclaration (same_table e d is) (declares h c e a)
still_table h c (RefusedTable fault) table a = table
still_table h c (Took name word) table a = table
still_table h c (Was name word) table a = table
still_table h c (RefusedName fault) table a = table
still_table h c (RefusedSegment fault) table a = table
still_table h c (Names all) table a = table
still_table h c (Answered bytes) table a = table
still_table h c (RefusedQuery fault) table a = table
still_table h c (Fed lines bad) table a = table
still_table h c Done table a = table
still_table h c (RefusedFile fault) table a = table
still_table h c NoMemory table a = table

is_of_table : (h : List Step) (c : Command) → HasTable h → IsOfTable h c
is_of_table h (Declare bytes) table = tt
is_of_table h (Take n o m bytes) table = tt
is_of_table h (Retire n o m) table = tt
is_of_table h (RetireTo n o m) table = tt
is_of_table h (Listing n) table = tt
is_of_table h (Ask n text) table = tt
is_of_table h (Feed n piece) table = tt
is_of_table h (Put n k) table = tt
is_of_table h (Get k n) table = λ d is put. table d is

-- ---- step by step

abbrev command_of : Step → Command
command_of s = s.command

first : (a b : Command) (cs es : List Command) → a ∷ cs ≡ b ∷ es → (a ≡ b) × (cs ≡ es)
first a b cs es e = (cc, cc)

none : (a : Command) (cs : List Command) → [] ≡ a ∷ cs → ⊥
none a cs e = cc

abbrev HaveMemory : List Step → Type 0
HaveMemory s = AllByRecursion (λ x. HasMemory x.reply) s

same_steps : (s t old g h : List Step) → HasTable old → Ran old s g → Ran old t h → map command_of s ≡ map command_of t
    → HaveMemory s → HaveMemory t → s ≡ t
same_steps [] [] old g h table a b e some also = refl
same_steps [] (y ∷ t) old g h table a b e some also = absurd (none y.command (map command_of t) e)
same_steps (x ∷ s) [] old g h table a b e some also = absurd (none x.command (map command_of s) (sym e))
same_steps (x ∷ s) (y ∷ t) old g h table a b e some also =
    let commands = first x.command y.command (map command_of s) (map command_of t) e in
    let answers = subst (λ c. Answers old c y.reply) (sym commands.0) b.1 in
    let replies = one_reply old x.command x.reply y.reply (is_of_table old x.command table) a.1 answers some.0 also.0 in
    let step : x ≡ y = λ i. record { command = commands.0 i; reply = replies i } in
    let ran = subst (λ z. Ran (z ∷ old) t h) (sym step) b.2 in
    let others = same_steps s t (x ∷ old) g h (still_table old x.command x.reply table a.1) a.2 ran commands.1 some.1 also.1 in
    λ i. step i ∷ others i

pub one_run : OneRun
one_run s t g h rest more a b ends stops same some also =
    let reading = one_reading s t g h rest more a b ends stops same in
    (same_steps s t [] g h no_table a b reading.0 some also, reading.1)
