-- Items of a SELECT list in memory, `*` written out.
use Rattle.std.specs.Prelude.{◌≡◌, ℕ, Bool, false, List, Option, Some, None}
use Rattle.std.specs.BTreeMap.{BTreeMap, get}
use Rattle.std.specs.Borrow.{Bor}
use Rattle.std.specs.List.{list_any}
use Rattle.wquery.specs.Tree.{view}
use Rattle.wscope.specs.Sources.{Shown, Placed, Spelled, ShownItem}
use Rattle.wscope.specs.Types.{Titled}
use Rattle.wscope.specs.Called.{first_called, is_unlike}
use Rattle.wscope.specs.Texts.{by_text}
use Rattle.wscope.specs.declared.called.Called.{Called}
use Rattle.wscope.specs.declared.output.Output.{Output}
use Rattle.wscope.specs.declared.output.Output.TheVariants as outputs

-- what an item stands for
abbrev pub shown : Output → Shown
shown (outputs.Placed place) = Placed place
shown (outputs.Spelled e) = Spelled (view e.now)

-- the first item of a name
abbrev pub first_of : Option Called → Option Shown
first_of None = None
first_of (Some c) = Some (shown c.first)

-- whether items of a name have two expressions
abbrev pub has_two : Option Called → Bool
has_two None = false
has_two (Some c) = c.is_ambiguous

-- the first of the items so far, or else the next one
abbrev pub first_or : Option Shown → Shown → Shown
first_or None next = next
first_or (Some s) next = s

-- each name has the first of these items that is called so, and whether another one is unlike it
pub record IsIndex (m : BTreeMap (Bor (List ℕ)) Called) (cs : List Titled) (is : List ShownItem) : Type 0 where
  pub first : (q : Bor (List ℕ)) → first_of (get by_text m q) ≡ first_called q.now is
  pub two : (q : Bor (List ℕ)) → has_two (get by_text m q) ≡ list_any (is_unlike cs q.now (first_called q.now is)) is
