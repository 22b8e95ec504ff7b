use Rattle.std.proofs.Common.{◌≡◌, ◌≤◌, length, take}
use Rattle.std.specs.Prelude.{All}
use Rattle.wset.specs.Running.{live_rows}
use Rattle.wset.specs.Sets.{Becomes}
use Rattle.wtable.specs.TableOrders.{IsServed, IsTableOrder}
use Rattle.wtable.proofs.orders.window_orders.Given as goal

abbrev pub invariant-loop-window : goal.invariant-loop-window
invariant-loop-window l = record {
  orders : All (IsTableOrder (live_rows l.fn.set)) l.orders.items;
  few : length l.orders.items ≤ 4;
  served : All (IsServed (length l.fn.set.schema.columns) l.orders.items) (take l.window-index l.windows);
  idle : length l.orders.items ≡ 0 → l.set ≡ l.fn.set;
  same : Becomes l.fn.set l.fn.set.view l.set;
}
