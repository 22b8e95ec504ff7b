use Rattle.std.proofs.Common.{◌≡◌, map, take}
use Rattle.wset.specs.KeptOrders.{unpacked}
use Rattle.wset.proofs.kept_order.packed.Given as goal

abbrev pub invariant-loop-row : goal.invariant-loop-row
invariant-loop-row l = map (unpacked l.width) l.numbers.items ≡ take l.row-index l.rows
