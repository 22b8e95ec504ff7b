use Rattle.std.proofs.Common.{map, take}
use Rattle.wplan.specs.Plans.{output_plan}
use Rattle.wtable.specs.Leading.{AreInRange}
use Rattle.wtable.proofs.leading.are_columns.Given as goal

abbrev pub invariant-loop-item : goal.invariant-loop-item
invariant-loop-item l = AreInRange (map (λ o. o.value) (map output_plan (take l.item-index l.items)))
