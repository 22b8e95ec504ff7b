use Rattle.std.proofs.Common.{◌≡◌, ◌≤◌, ◌+◌, Ok, length, map, take}
use Rattle.wcolumns.specs.Columns.{column_seen}
use Rattle.wrows.specs.Outcomes.{each}
use Rattle.wrows.specs.Laid.{rows_seen}
use Rattle.wcalls.specs.Windows.{Windowed}
use Rattle.wcalls.specs.Functions.{function_column}
use Rattle.wcalls.specs.Lent.{functions_seen}
use Rattle.wcalls.specs.Arranged.{IsArranged}
use Rattle.wcalls.specs.Joins.{most_of_functions}
use Rattle.wcalls.specs.Kept.{are_values, is_aggregate}
use Rattle.wcalls.proofs.function_columns.every_column.Given as goal

abbrev pub invariant-loop-function : goal.invariant-loop-function
invariant-loop-function l = record {
  joins : l.tally ≤ l.fn.tally + most_of_functions l.arranged.partitions.now.frame.exclusion (length l.arranged.order.now)
      (take l.function-index (functions_seen l.functions));
  not_less : l.fn.tally ≤ l.tally;
  so_far : (w : Windowed) → IsArranged w l.arranged.order.now l.arranged.partitions.now
      → each (function_column (rows_seen l.arranged.rows.now) w) (take l.function-index (functions_seen l.functions))
      ≡ Ok (map column_seen l.columns.items);
  kept : map are_values l.columns.items ≡ map is_aggregate (take l.function-index (functions_seen l.functions));
}
