use Rattle.std.proofs.Common.{◌<◌, Bool, length, arith}
use Rattle.std.proofs.lemmas.List.{length-map}
use Rattle.std.proofs.lemmas.Result.{err_from_is_err_and}
use Rattle.wplan.specs.Formula.{formula}
use Rattle.wrows.specs.Columns.{Row, holds_on, is_out_of_range}
use Rattle.wrows.specs.Laid.{row_seen, rows_seen}
use Rattle.wrows.proofs.RowFacts.{ok_is_false}
use Rattle.wtable.proofs.HeldFacts.{held_long, held_more, held_part, held_whole, in_range_more, none_at_fault, row_refused}
use Rattle.wtable.proofs.kept_rows.push_few_where.Goals as goal

pub returns-in_err-push_where-clause-gives : goal.returns-in_err-push_where-clause-gives
returns-in_err-push_where-clause-gives c =
    let p = err_from_is_err_and c.from_residual-in_err-push_where.result c.from_residual-in_err-push_where.ensures.1 in
    let t = formula c.args.condition.now.expr.now in
    let stored = c.in_ok-segment.segment.now.rows in
    let within : c.loop-row.row < length stored = omega (arith, c.loop-row-test.true, c.rows-row-end.ensures.count) in
    rw (p.1, p.2, ← c.in_ok-segment.ensures) (row_refused t stored c.loop-row.row (row_seen c.row.result) c.in_err-push_where.field-0.0
    within c.row.ensures.values c.in_err-push_where.ensures.gives)

pub loop-row-preserved : goal.loop-row-preserved
loop-row-preserved c =
    let t = formula c.args.condition.now.expr.now in
    let stored = c.in_ok-segment.segment.now.rows in
    let within : c.loop-row.row < length stored = omega (arith, c.loop-row-test.true, c.rows-row-end.ensures.count) in
    record {
      in_range = in_range_more (is_out_of_range t) stored c.loop-row.row (row_seen c.row.result) within c.row.ensures.values
          c.loop-row.invariant.in_range (ok_is_false _ _ _ c.in_ok-push_where.ensures.gives);
      so_far = held_more (holds_on t) stored (rows_seen c.args.held.now.items) (rows_seen c.loop-row.held.items) _
          c.loop-row.row (row_seen c.row.result) within c.row.ensures.values c.loop-row.invariant.so_far c.in_ok-push_where.ensures.added;
      few = λ fits. omega (
        arith,
        c.if-len-most.false,
        length-map c.loop-row.held.items row_seen,
        length-map c.push_where.new.held.items row_seen,
        held_long (holds_on t (row_seen c.row.result)) (rows_seen c.loop-row.held.items) (rows_seen c.push_where.new.held.items)
            (row_seen c.row.result) c.in_ok-push_where.ensures.added,
      );
    }

pub returns-clause-gives : goal.returns-clause-gives
returns-clause-gives c =
    let t = formula c.args.condition.now.expr.now in
    let stored = c.in_ok-segment.segment.now.rows in
    rw (← c.in_ok-segment.ensures) (none_at_fault t stored c.loop-row.row
    (omega (arith, c.loop-row-test.false, c.rows-row-end.ensures.count)) c.loop-row.invariant.in_range)

pub returns-clause-added : goal.returns-clause-added
returns-clause-added c =
    let t = formula c.args.condition.now.expr.now in
    let stored = c.in_ok-segment.segment.now.rows in
    rw (← c.in_ok-segment.ensures) (λ whole. held_whole (holds_on t) stored (rows_seen c.args.held.now.items)
    (rows_seen c.loop-row.held.items) c.loop-row.row (omega (arith, c.loop-row-test.false, c.rows-row-end.ensures.count))
    c.loop-row.invariant.so_far)

pub returns-then-len-most-clause-stopped : goal.returns-then-len-most-clause-stopped
returns-then-len-most-clause-stopped c =
    let p : Row → Bool = holds_on (formula c.args.condition.now.expr.now) in
    let stored = c.in_ok-segment.segment.now.rows in
    let old = c.args.held.now.items in
    let held = c.loop-row.held.items in
    let many : c.args.most < length (rows_seen held) = omega (arith, c.if-len-most.true, length-map held row_seen) in
    rw (← c.in_ok-segment.ensures) (λ stopped. omega (
      arith,
      length-map old row_seen,
      held_part p stored (rows_seen old) (rows_seen held) c.loop-row.row c.args.most c.loop-row.invariant.so_far many,
    ))
