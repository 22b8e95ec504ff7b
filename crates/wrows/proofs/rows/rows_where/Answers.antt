use Rattle.std.proofs.Common.{List, Bool, Vec, Global, filter}
use Rattle.std.specs.Borrow.{Bor}
use Rattle.std.specs.List.{list_any}
use Rattle.std.proofs.lemmas.Result.{err_from_is_err_and}
use Rattle.wvalues.specs.declared.value.Value.{Value}
use Rattle.wplan.specs.Formula.{formula}
use Rattle.wrows.specs.declared.fault.AnswerFault.TheVariants.{OutOfRange}
use Rattle.wrows.specs.Columns.{Row, is_out_of_range, holds_on}
use Rattle.wrows.specs.Laid.{row_seen, rows_seen}
use Rattle.wrows.proofs.RowFacts.{kept_all, refused_by, any_of_all}
use Rattle.wrows.proofs.rows.rows_where.Goals as goal

pub returns-in_err-holds : goal.returns-in_err-holds
returns-in_err-holds c =
    let p = err_from_is_err_and c.from_residual.result c.from_residual.ensures.1 in
    let t = formula c.args.condition.now.expr.now in
    let row = row_seen c.row-item.result in
    let rows = rows_seen c.args.rows.now in
    let view : Vec (Bor (List Value)) Global → List Row = λ held. rows_seen held.items in
    rw (p.1, p.2) (refused_by (λ (b : Bool). b) view c.in_err-holds.field-0.0 (is_out_of_range t row)
    (list_any (is_out_of_range t) rows) (holds_on t row) (filter (holds_on t) rows) c.in_err-holds.ensures.holds
    (any_of_all (is_out_of_range t) row_seen c.args.rows.now c.loop-row.row-index c.row-item.result c.loop-row-test.true c.row-item.is))

pub returns : goal.returns
returns c =
    let t = formula c.args.condition.now.expr.now in
    kept_all (is_out_of_range t) (holds_on t) row_seen OutOfRange c.args.rows.now c.loop-row.held.items c.loop-row.row-index
    c.loop-row-test.false c.loop-row.invariant.in_range c.loop-row.invariant.so_far
