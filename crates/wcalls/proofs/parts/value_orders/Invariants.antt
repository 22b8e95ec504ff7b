use Rattle.std.proofs.Common.{◌≡◌, map, take}
use Rattle.wplan.specs.Formula.{formula}
use Rattle.wrows.specs.Sorting.{ascending}
use Rattle.wcalls.proofs.parts.value_orders.Given as goal

abbrev pub invariant-loop : goal.invariant-loop
invariant-loop l = l.orders.items ≡ ascending (map formula (take l.index l.values))
