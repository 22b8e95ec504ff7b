use Rattle.std.proofs.Common.{◌≡◌, map, take}
use Rattle.wrows.specs.Laid.{formulas_seen}
use Rattle.wplan.specs.Plans.{output_plan}
use Rattle.wplanner.proofs.parts.item_values.Given as goal

abbrev pub invariant-loop-item : goal.invariant-loop-item
invariant-loop-item l = formulas_seen l.values.items ≡ map (λ o. o.value) (map output_plan (take l.item-index l.items))
