use Rattle.std.proofs.Common.{List, Vec, Global, ap}
use Rattle.std.specs.Borrow.{Bor}
use Rattle.std.proofs.lemmas.Result.{err_from_is_err_and}
use Rattle.wvalues.specs.declared.value.Value.{Value}
use Rattle.wplan.specs.Formula.{formula}
use Rattle.wrows.specs.Columns.{Row}
use Rattle.wrows.specs.Laid.{rows_seen}
use Rattle.wrows.proofs.RowFacts.{ok_is_false}
use Rattle.wtable.specs.Tables.{rows_of_set}
use Rattle.wtable.proofs.HeldFacts.{all_held, none_held, segment_held, segment_refused}
use Rattle.wtable.proofs.SourceFacts.{set_rows}
use Rattle.wtable.proofs.kept_rows.rows_where.Goals as goal

pub segments-init : goal.segments-init
segments-init c =
    none_held (formula c.args.condition.now.expr.now) (rows_of_set c.args.set.now) (rows_seen c.new-held.result.items)
    c.lives-segment-items.result _ (ap rows_seen c.new-held.ensures.items) c.into_iter-segment-iterator.ensures.into_iter_gives
    (set_rows c.args.set.now c.lives-segment-items.result c.lives-segment-items.ensures)

pub returns-in_err-push_rows_where : goal.returns-in_err-push_rows_where
returns-in_err-push_rows_where c =
    let p = err_from_is_err_and c.from_residual.result c.from_residual.ensures.1 in
    let t = formula c.args.condition.now.expr.now in
    let view : Vec (Bor (List Value)) Global → List Row = λ held. rows_seen held.items in
    rw (p.1, p.2) (segment_refused t (rows_of_set c.args.set.now) (rows_seen c.segments.held.items) _ _ _ c.in-Some.ensures.steps
    c.segments.invariant view c.in_err-push_rows_where.field-0.0 c.in_err-push_rows_where.ensures.gives)

pub segments-preserved : goal.segments-preserved
segments-preserved c =
    segment_held (formula c.args.condition.now.expr.now) (rows_of_set c.args.set.now) (rows_seen c.segments.held.items) _ _ _
    c.in-Some.ensures.steps c.segments.invariant _ (ok_is_false _ _ _ c.in_ok-push_rows_where.ensures.gives)
    c.in_ok-push_rows_where.ensures.added

pub returns : goal.returns
returns c =
    all_held (formula c.args.condition.now.expr.now) (rows_of_set c.args.set.now) (rows_seen c.segments.held.items) _
    c.in-None.ensures.steps.0 c.segments.invariant
