use Rattle.std.proofs.Common.{◌≡◌, false, filter, take}
use Rattle.std.specs.List.{list_any}
use Rattle.wplan.specs.Formula.{formula}
use Rattle.wrows.specs.Columns.{is_out_of_range, holds_on}
use Rattle.wrows.specs.Laid.{row_seen}
use Rattle.wrows.proofs.rows.rows_where.Given as goal

abbrev pub invariant-loop-row : goal.invariant-loop-row
invariant-loop-row l = record {
  in_range : list_any (λ r. is_out_of_range (formula l.condition.expr.now) (row_seen r)) (take l.row-index l.rows) ≡ false;
  so_far : l.held.items ≡ filter (λ r. holds_on (formula l.condition.expr.now) (row_seen r)) (take l.row-index l.rows);
}
