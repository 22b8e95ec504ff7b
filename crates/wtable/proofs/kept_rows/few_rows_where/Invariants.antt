use Rattle.std.proofs.Common.{◌≤◌, ◌+◌, length}
use Rattle.wplan.specs.Formula.{formula}
use Rattle.wrows.specs.Laid.{rows_seen}
use Rattle.wtable.specs.Tables.{rows_of_set}
use Rattle.wtable.proofs.HeldFacts.{HeldSoFar}
use Rattle.wtable.proofs.kept_rows.few_rows_where.Given as goal

-- the rows of the segments that are left, beside those that are held
abbrev pub invariant-segments : goal.invariant-segments
invariant-segments l = record {
  so_far : HeldSoFar (formula l.condition.expr.now) (rows_of_set l.set) (rows_seen l.held.items) l.segment-iterator;
  few : length l.held.items ≤ l.most + 1;
}
