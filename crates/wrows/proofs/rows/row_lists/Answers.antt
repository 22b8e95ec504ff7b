use Rattle.std.proofs.Common.{◌≡◌, length, map, take, take_all, sym, Vec, Global, List, ap, ◌∙◌}
use Rattle.std.specs.List.{list_any, flat_map}
use Rattle.std.proofs.lemmas.List.{length-map}
use Rattle.wvalues.specs.declared.value.Value.{Value}
use Rattle.std.proofs.lemmas.Result.{err_from_is_err_and}
use Rattle.wvalues.specs.Meaning.{meaning}
use Rattle.wsort.specs.LaidRows.{laid}
use Rattle.wrows.specs.declared.fault.AnswerFault.TheVariants.{OutOfRange}
use Rattle.wrows.specs.Columns.{Row, is_out_of_range, value_on}
use Rattle.wrows.specs.Laid.{formulas_seen, formula_seen, row_seen}
use Rattle.wrows.proofs.RowFacts.{any_next, flat_next, ok_is_false, refused, any_of_all, all_in_range, laid_rows, laid_length, all_of_each}
use Rattle.wrows.proofs.rows.row_lists.Goals as goal

pub returns-in_err-push_values-clause-gives : goal.returns-in_err-push_values-clause-gives
returns-in_err-push_values-clause-gives c =
    let p = err_from_is_err_and c.from_residual-in_err-push_values.result c.from_residual-in_err-push_values.ensures.1 in
    let ts = formulas_seen c.args.exprs.now in
    let view : Vec Value Global → List Row = λ cells. laid (length c.args.exprs.now) (length c.args.rows.now) cells.items in
    rw (p.1, p.2) (refused view c.in_err-push_values.field-0.0 _ _ _ c.in_err-push_values.ensures.gives
    (any_of_all (λ row. list_any (λ t. is_out_of_range t row) ts) row_seen c.args.rows.now c.loop-row.row-index
    c.row-item.result c.loop-row-test.true c.row-item.is))

pub loop-row-preserved : goal.loop-row-preserved
loop-row-preserved c = record {
  in_range = any_next _ c.args.rows.now c.loop-row.row-index c.row-item.result c.loop-row-test.true c.row-item.is
      c.loop-row.invariant.in_range (ok_is_false _ _ _ c.in_ok-push_values.ensures.gives);
  so_far = flat_next _ c.args.rows.now c.loop-row.row-index c.row-item.result _ _ c.loop-row-test.true c.row-item.is
      c.loop-row.invariant.so_far c.in_ok-push_values.ensures.added;
}

pub returns-clause-gives : goal.returns-clause-gives
returns-clause-gives c =
    let ts = formulas_seen c.args.exprs.now in
    let rows = c.args.rows.now in
    let all : take c.loop-row.row-index rows ≡ rows = take_all c.loop-row.row-index rows c.loop-row-test.false in
    all_in_range (λ row. list_any (λ t. is_out_of_range t row) ts) (λ row. map (λ t. value_on t row) ts) row_seen OutOfRange
    rows (laid (length c.args.exprs.now) (length rows) c.loop-row.cells.items) c.loop-row.row-index c.loop-row-test.false
    c.loop-row.invariant.in_range
    (laid_rows (length c.args.exprs.now) (λ r. map (λ t. value_on t (row_seen r)) ts) rows
    (all_of_each (λ r. length (map (λ t. value_on t (row_seen r)) ts) ≡ length c.args.exprs.now)
    (λ r. length-map ts (λ t. value_on t (row_seen r)) ∙ length-map c.args.exprs.now formula_seen) rows) c.loop-row.cells.items
    (c.loop-row.invariant.so_far ∙ ap (flat_map (λ r. map (λ t. value_on t (row_seen r)) ts)) all)
    ∙ ap (map (λ r. map (λ t. value_on t (row_seen r)) ts)) (sym all))

pub returns-clause-laid : goal.returns-clause-laid
returns-clause-laid c =
    let ts = formulas_seen c.args.exprs.now in
    let rows = c.args.rows.now in
    let all : take c.loop-row.row-index rows ≡ rows = take_all c.loop-row.row-index rows c.loop-row-test.false in
    sym (length-map c.loop-row.cells.items meaning) ∙ ap length c.loop-row.invariant.so_far
    ∙ ap (λ l. length (flat_map (λ r. map (λ t. value_on t (row_seen r)) ts) l)) all
    ∙ laid_length (length c.args.exprs.now) (λ r. map (λ t. value_on t (row_seen r)) ts) rows
    (all_of_each (λ r. length (map (λ t. value_on t (row_seen r)) ts) ≡ length c.args.exprs.now)
    (λ r. length-map ts (λ t. value_on t (row_seen r)) ∙ length-map c.args.exprs.now formula_seen) rows)
