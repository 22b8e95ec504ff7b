use Rattle.std.proofs.Common.{◌<◌, length, arith}
use Rattle.std.proofs.lemmas.Result.{err_from_is_err_and}
use Rattle.wplan.specs.Formula.{formula}
use Rattle.wrows.specs.Columns.{holds_on, is_out_of_range}
use Rattle.wrows.specs.Laid.{row_seen, rows_seen}
use Rattle.wrows.proofs.RowFacts.{ok_is_false}
use Rattle.wtable.proofs.HeldFacts.{held_more, held_whole, in_range_more, none_at_fault, row_refused}
use Rattle.wtable.proofs.kept_rows.push_all_where.Goals as goal

pub returns-in_err-push_where-clause-gives : goal.returns-in_err-push_where-clause-gives
returns-in_err-push_where-clause-gives c =
    let p = err_from_is_err_and c.from_residual.result c.from_residual.ensures.1 in
    let t = formula c.args.condition.now.expr.now in
    let stored = c.args.segment.now.rows in
    let within : c.loop-row.row < length stored = omega (arith, c.loop-row-test.true, c.rows-row-end.ensures.count) in
    rw (p.1, p.2) (row_refused t stored c.loop-row.row (row_seen c.row.result) c.in_err-push_where.field-0.0
    within c.row.ensures.values c.in_err-push_where.ensures.gives)

pub loop-row-preserved : goal.loop-row-preserved
loop-row-preserved c =
    let t = formula c.args.condition.now.expr.now in
    let stored = c.args.segment.now.rows in
    let within : c.loop-row.row < length stored = omega (arith, c.loop-row-test.true, c.rows-row-end.ensures.count) in
    record {
      in_range = in_range_more (is_out_of_range t) stored c.loop-row.row (row_seen c.row.result) within c.row.ensures.values
          c.loop-row.invariant.in_range (ok_is_false _ _ _ c.in_ok-push_where.ensures.gives);
      so_far = held_more (holds_on t) stored (rows_seen c.args.held.now.items) (rows_seen c.loop-row.held.items) _
          c.loop-row.row (row_seen c.row.result) within c.row.ensures.values c.loop-row.invariant.so_far c.in_ok-push_where.ensures.added;
    }

pub returns-clause-gives : goal.returns-clause-gives
returns-clause-gives c =
    none_at_fault (formula c.args.condition.now.expr.now) c.args.segment.now.rows c.loop-row.row
    (omega (arith, c.loop-row-test.false, c.rows-row-end.ensures.count)) c.loop-row.invariant.in_range

pub returns-clause-added : goal.returns-clause-added
returns-clause-added c =
    held_whole (holds_on (formula c.args.condition.now.expr.now)) c.args.segment.now.rows (rows_seen c.args.held.now.items)
    (rows_seen c.loop-row.held.items) c.loop-row.row (omega (arith, c.loop-row-test.false, c.rows-row-end.ensures.count))
    c.loop-row.invariant.so_far
