use Rattle.std.proofs.Common.{◌≡◌, map, take}
use Rattle.wset.specs.KeptOrders.{unpacked}
use Rattle.wset.proofs.kept_order.unpacked.Given as goal

abbrev pub invariant-loop-number : goal.invariant-loop-number
invariant-loop-number l = l.refs.items ≡ map (unpacked l.order.width) (take l.number-index l.order.rows.items)
