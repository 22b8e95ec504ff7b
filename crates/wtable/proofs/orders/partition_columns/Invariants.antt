use Rattle.std.proofs.Common.{map, take}
use Rattle.wplan.specs.Formula.{formula}
use Rattle.wrows.specs.Sorting.{ascending}
use Rattle.wtable.specs.TableOrders.{AreColumns}
use Rattle.wtable.proofs.orders.partition_columns.Given as goal

-- the keys so far are those of the partition values so far
abbrev pub invariant-loop-value : goal.invariant-loop-value
invariant-loop-value l = AreColumns l.width (map formula (take l.value-index l.partition))
    (ascending (map formula (take l.value-index l.partition))) l.keys.items
