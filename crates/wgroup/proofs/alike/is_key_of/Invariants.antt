use Rattle.std.proofs.Common.{◌≡◌, map, drop}
use Rattle.std.specs.Cmp.Lexicographic.{pointwise}
use Rattle.wvalues.specs.Meaning.{meaning}
use Rattle.wvalues.specs.Sameness.{same_meaning}
use Rattle.wgroup.specs.Sight.{key_in}
use Rattle.wgroup.proofs.alike.is_key_of.Given as goal

abbrev pub invariant-loop-place : goal.invariant-loop-place
invariant-loop-place l =
    pointwise same_meaning (key_in l.columns (map meaning l.row)) (map meaning l.key)
    ≡ pointwise same_meaning (key_in (drop l.place l.columns) (map meaning l.row)) (map meaning (drop l.place l.key))
