use Rattle.std.proofs.Common.{◌≡◌, ◌≤◌, ◌+◌, drop, length, map}
use Rattle.wcolumns.specs.Columns.{columns_in}
use Rattle.wplan.specs.Plans.{call_plan, window_plan}
use Rattle.wrows.specs.Laid.{rows_seen}
use Rattle.wplanner.specs.ByWindow.{columns_from, most_from}
use Rattle.wplanner.specs.KeptOrders.{AreOrdersOf}
use Rattle.wtable.specs.TableOrders.{ArePresortedOf}
use Rattle.wplanner.proofs.SelectFacts.{goes_with}
use Rattle.wplanner.proofs.windows.window_answers.Given as goal

abbrev pub invariant-loop-number : goal.invariant-loop-number
invariant-loop-number l = record {
  so_far : columns_from (rows_seen l.rows) (map call_plan l.calls) 0 (map window_plan l.windows)
      ≡ goes_with (rows_seen l.rows) (map call_plan l.calls) (map columns_in l.answers.items) l.number
      (map window_plan (drop l.number l.windows));
  kept : AreOrdersOf (rows_seen l.rows) l.kept.items;
  presorted : ArePresortedOf (rows_seen l.rows) l.presorted.items;
  made : l.work.orders ≤ l.fn.work.orders + l.number;
  joins : l.work.joins + most_from (length l.rows) (map call_plan l.calls) l.number
      (map window_plan (drop l.number l.windows)) ≤ l.fn.work.joins + most_from (length l.rows) (map call_plan l.calls) 0
      (map window_plan l.windows);
}
