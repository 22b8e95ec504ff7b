use Rattle.std.proofs.Common.{◌≡◌, ℕ, List, map, take}
use Rattle.std.specs.BTreeSet.{contains_text}
use Rattle.std.specs.List.{list_any}
use Rattle.wvalues.specs.Meaning.{meaning, Text}
use Rattle.wplan.specs.Constants.{are_equal}
use Rattle.wplan.proofs.constants.texts_in.Given as goal

abbrev pub invariant-values : goal.invariant-values
invariant-values l = (x : List ℕ) → contains_text l.texts x ≡ list_any (are_equal (Text x)) (map meaning (take l.value-index l.values))
