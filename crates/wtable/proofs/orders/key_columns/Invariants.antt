use Rattle.std.proofs.Common.{map, take}
use Rattle.wplan.specs.Plans.{key_plan}
use Rattle.wtable.specs.TableOrders.{AreColumns}
use Rattle.wtable.proofs.orders.key_columns.Given as goal

-- the keys so far are those of the keys that are asked for so far
abbrev pub invariant-loop-asked : goal.invariant-loop-asked
invariant-loop-asked l = AreColumns l.width (map (λ k. k.value) (map key_plan (take l.asked-index l.asked_keys)))
    (map (λ k. k.order) (map key_plan (take l.asked-index l.asked_keys))) l.keys.items
