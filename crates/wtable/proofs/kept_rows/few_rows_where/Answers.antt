use Rattle.std.proofs.Common.{◌≡◌, List, Vec, Global, length, ap, arith}
use Rattle.std.proofs.lemmas.List.{length-map}
use Rattle.std.specs.Borrow.{Bor}
use Rattle.std.specs.List.{list_any}
use Rattle.std.proofs.lemmas.Result.{err_from_is_err_and}
use Rattle.wvalues.specs.declared.value.Value.{Value}
use Rattle.wplan.specs.Formula.{formula}
use Rattle.wrows.specs.Columns.{Row, is_out_of_range}
use Rattle.wrows.specs.Laid.{row_seen, rows_seen}
use Rattle.wrows.proofs.RowFacts.{ok_is_false}
use Rattle.wtable.specs.Tables.{rows_of_set}
use Rattle.wtable.proofs.HeldFacts.{all_held, at_end, none_held, segment_held, segment_many, segment_refused}
use Rattle.wtable.proofs.SourceFacts.{set_rows}
use Rattle.wtable.proofs.kept_rows.few_rows_where.Goals as goal

pub segments-init : goal.segments-init
segments-init c =
    let none : length c.new-held.result.items ≡ 0 = ap length c.new-held.ensures.items in
    record {
      so_far =
          none_held (formula c.args.condition.now.expr.now) (rows_of_set c.args.set.now) (rows_seen c.new-held.result.items)
          c.lives-segment-items.result _ (ap rows_seen c.new-held.ensures.items) c.into_iter-segment-iterator.ensures.into_iter_gives
          (set_rows c.args.set.now c.lives-segment-items.result c.lives-segment-items.ensures);
      few = omega (arith, none);
    }

pub returns-in_err-all-clause-rows : goal.returns-in_err-all-clause-rows
returns-in_err-all-clause-rows c =
    let p = err_from_is_err_and c.from_residual.result c.from_residual.ensures.1 in
    let t = formula c.args.condition.now.expr.now in
    let view : Vec (Bor (List Value)) Global → List Row = λ held. rows_seen held.items in
    rw (p.1, p.2) (segment_refused t (rows_of_set c.args.set.now) (rows_seen c.segments.held.items) _ _ _ c.in-Some.ensures.steps
    c.segments.invariant.so_far view c.in_err-all.field-0.0 c.in_err-all.ensures.gives)

pub segments-preserved : goal.segments-preserved
segments-preserved c =
    let t = formula c.args.condition.now.expr.now in
    record {
      so_far =
          segment_held t (rows_of_set c.args.set.now) (rows_seen c.segments.held.items) _ _ _
          c.in-Some.ensures.steps c.segments.invariant.so_far _
          (ok_is_false (list_any (is_out_of_range t) c.in-Some.segment.now.content.rows) tt tt
          (at_end c.in_ok-all.all _ c.in_ok-all.ensures.gives c.if-not-all.false)) (c.in_ok-all.ensures.added c.if-not-all.false);
      few = c.in_ok-all.ensures.few c.segments.invariant.few;
    }

pub returns-clause-rows : goal.returns-clause-rows
returns-clause-rows c =
    all_held (formula c.args.condition.now.expr.now) (rows_of_set c.args.set.now) (rows_seen c.segments.held.items) _
    c.in-None.ensures.steps.0 c.segments.invariant.so_far

pub returns-then-not-all-clause-given : goal.returns-then-not-all-clause-given
returns-then-not-all-clause-given c =
    let t = formula c.args.condition.now.expr.now in
    let held = c.segments.held.items in
    segment_many t (rows_of_set c.args.set.now) (rows_seen held) _ _ _ c.in-Some.ensures.steps c.segments.invariant.so_far c.args.most
    (omega (arith, c.in_ok-all.ensures.stopped c.if-not-all.true, length-map held row_seen))
