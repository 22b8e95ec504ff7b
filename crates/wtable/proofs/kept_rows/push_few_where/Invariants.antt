use Rattle.std.proofs.Common.{◌≡◌, ◌≤◌, ◌+◌, ◌++◌, false, filter, length, take}
use Rattle.std.specs.List.{list_any}
use Rattle.wplan.specs.Formula.{formula}
use Rattle.wrows.specs.Columns.{holds_on, is_out_of_range}
use Rattle.wrows.specs.Laid.{rows_seen}
use Rattle.wtable.proofs.kept_rows.push_few_where.Given as goal

abbrev pub invariant-loop-row : goal.invariant-loop-row
invariant-loop-row l = record {
  in_range : list_any (is_out_of_range (formula l.condition.expr.now)) (take l.row l.segment.rows) ≡ false;
  so_far : rows_seen l.held.items ≡ rows_seen l.fn.held.items ++ filter (holds_on (formula l.condition.expr.now))
      (take l.row l.segment.rows);
  few : length l.fn.held.items ≤ l.most + 1 → length l.held.items ≤ l.most + 1;
}
