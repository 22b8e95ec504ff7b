use Rattle.std.proofs.Common.{List, Bool, Vec, Global, Option, Some, map, length, take, take_all, ap, ◌∙◌}
use Rattle.std.specs.Borrow.{Bor}
use Rattle.std.specs.List.{list_any}
use Rattle.std.proofs.lemmas.List.{length-map}
use Rattle.std.proofs.lemmas.Result.{err_from_is_err_and}
use Rattle.wvalues.specs.declared.value.Value.{Value}
use Rattle.wplan.specs.Formula.{formula}
use Rattle.wrows.specs.declared.fault.AnswerFault.TheVariants.{OutOfRange}
use Rattle.wrows.specs.Columns.{is_out_of_range, holds_on}
use Rattle.wrows.specs.Laid.{row_seen, rows_seen}
use Rattle.wrows.proofs.RowFacts.{all_in_range, refused_by, any_of_all}
use Rattle.waggregate.proofs.FeedFacts.{some_too}
use Rattle.waggregate.proofs.feeding.tests.Goals as goal

pub returns-in_err-holds-clause-gives : goal.returns-in_err-holds-clause-gives
returns-in_err-holds-clause-gives c =
    let p = err_from_is_err_and c.from_residual-in_err-holds.result c.from_residual-in_err-holds.ensures.1 in
    let t = formula c.args.condition.now.expr.now in
    let row = row_seen c.row-item.result in
    let rows = rows_seen c.args.rows.now in
    let view : Vec Bool Global → Option (List Bool) = λ tests. Some tests.items in
    rw (p.1, p.2) (refused_by (λ (b : Bool). b) view c.in_err-holds.field-0.0 (is_out_of_range t row)
    (list_any (is_out_of_range t) rows) (holds_on t row) (Some (map (holds_on t) rows)) c.in_err-holds.ensures.holds
    (any_of_all (is_out_of_range t) row_seen c.args.rows.now c.loop-row.row-index c.row-item.result c.loop-row-test.true c.row-item.is))

pub returns-clause-gives : goal.returns-clause-gives
returns-clause-gives c =
    let t = formula c.args.condition.now.expr.now in
    some_too _ OutOfRange _ _ (all_in_range (is_out_of_range t) (holds_on t) row_seen OutOfRange c.args.rows.now
    c.loop-row.tests.items c.loop-row.row-index c.loop-row-test.false c.loop-row.invariant.in_range c.loop-row.invariant.so_far)

pub returns-clause-len : goal.returns-clause-len
returns-clause-len c =
    let t = formula c.args.condition.now.expr.now in
    ap length c.loop-row.invariant.so_far
    ∙ length-map (take c.loop-row.row-index c.args.rows.now) (λ (r : Bor (List Value)). holds_on t (row_seen r))
    ∙ ap length (take_all c.loop-row.row-index c.args.rows.now c.loop-row-test.false)
