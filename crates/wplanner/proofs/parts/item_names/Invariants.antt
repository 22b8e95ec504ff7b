use Rattle.std.proofs.Common.{◌≡◌, map, take}
use Rattle.std.specs.Rc.{rc_str_bytes}
use Rattle.wplan.specs.Plans.{output_plan}
use Rattle.wplanner.proofs.parts.item_names.Given as goal

abbrev pub invariant-loop-item : goal.invariant-loop-item
invariant-loop-item l = map rc_str_bytes l.names.items ≡ map (λ o. o.name) (map output_plan (take l.item-index l.items))
