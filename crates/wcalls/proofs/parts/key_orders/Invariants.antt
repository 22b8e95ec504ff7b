use Rattle.std.proofs.Common.{◌≡◌, map, take}
use Rattle.wplan.specs.Plans.{key_plan}
use Rattle.wcalls.proofs.parts.key_orders.Given as goal

abbrev pub invariant-loop-key : goal.invariant-loop-key
invariant-loop-key l = l.orders.items ≡ map (λ o. o.order) (map key_plan (take l.key-index l.keys))
