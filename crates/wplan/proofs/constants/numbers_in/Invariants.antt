use Rattle.std.proofs.Common.{◌≡◌, ℤ, map, take}
use Rattle.std.specs.BTreeSet.{contains}
use Rattle.std.specs.List.{list_any}
use Rattle.std.specs.Ordering.{int_cmp}
use Rattle.wvalues.specs.Meaning.{meaning, Int}
use Rattle.wplan.specs.Constants.{are_equal}
use Rattle.wplan.proofs.constants.numbers_in.Given as goal

abbrev pub invariant-values : goal.invariant-values
invariant-values l = (x : ℤ) → contains int_cmp l.numbers x ≡ list_any (are_equal (Int x)) (map meaning (take l.value-index l.values))
