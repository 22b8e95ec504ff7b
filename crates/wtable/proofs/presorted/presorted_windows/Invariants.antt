use Rattle.std.proofs.Common.{List, Option}
use Rattle.std.proofs.Common.{◌≡◌, ◌++◌, length, map, reverse}
use Rattle.std.specs.Prelude.{All}
use Rattle.wplan.specs.Formula.{Formula}
use Rattle.wrows.specs.Columns.{Row}
use Rattle.wrows.specs.Laid.{rows_seen}
use Rattle.wtable.specs.TableOrders.{ArePresortedOf, IsNumbered, IsTableOrder, told_of, told_presorted}
use Rattle.wtable.proofs.presorted.presorted_windows.Given as goal

abbrev pub invariant-left : goal.invariant-left
invariant-left l = record {
  orders : (condition : Option Formula) (segments : List (List Row)) → IsNumbered condition segments l.kept
      → All (IsTableOrder segments) l.fn.orders.items → All (IsTableOrder segments) l.left.items
      × ArePresortedOf (rows_seen l.kept.rows.items) l.presorted.items;
  told : map told_presorted l.presorted.items ++ reverse (map (told_of l.kept) l.left.items)
      ≡ reverse (map (told_of l.kept) l.fn.orders.items);
}

abbrev pub decreases-left : goal.decreases-left
decreases-left l = length l.left.items
