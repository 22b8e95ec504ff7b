use Rattle.std.proofs.Common.{map}
use Rattle.std.specs.List.{list_any}
use Rattle.std.proofs.lemmas.Result.{err_from_is_err_and}
use Rattle.wvalues.specs.Meaning.{meaning}
use Rattle.wrows.specs.declared.fault.AnswerFault.TheVariants.{OutOfRange}
use Rattle.wrows.specs.Columns.{is_out_of_range, value_on}
use Rattle.wrows.specs.Laid.{formula_seen, formulas_seen}
use Rattle.wrows.proofs.RowFacts.{none_of_all, added_all, refused_by, any_of_all}
use Rattle.wrows.proofs.rows.push_values.Goals as goal

pub returns-in_err-value-clause-gives : goal.returns-in_err-value-clause-gives
returns-in_err-value-clause-gives c =
    let p = err_from_is_err_and c.from_residual.result c.from_residual.ensures.1 in
    let row = map meaning c.args.row.now in
    let t = formula_seen c.expr-item.result in
    rw (p.1, p.2) (refused_by meaning (λ (u : Unit {0}). u) c.in_err-value.field-0.0 (is_out_of_range t row)
    (list_any (λ t. is_out_of_range t row) (formulas_seen c.args.exprs.now)) (value_on t row) (tt {0}) c.in_err-value.ensures
    (any_of_all (λ t. is_out_of_range t row) formula_seen c.args.exprs.now c.loop-expr.expr-index c.expr-item.result
    c.loop-expr-test.true c.expr-item.is))

pub returns-clause-gives : goal.returns-clause-gives
returns-clause-gives c =
    none_of_all (λ t. is_out_of_range t (map meaning c.args.row.now)) formula_seen OutOfRange c.args.exprs.now
    c.loop-expr.expr-index c.loop-expr-test.false c.loop-expr.invariant.in_range

pub returns-clause-added : goal.returns-clause-added
returns-clause-added c =
    added_all (λ t. value_on t (map meaning c.args.row.now)) formula_seen c.args.exprs.now c.loop-expr.expr-index
    (map meaning c.args.cells.now.items) (map meaning c.loop-expr.cells.items) c.loop-expr-test.false c.loop-expr.invariant.so_far
