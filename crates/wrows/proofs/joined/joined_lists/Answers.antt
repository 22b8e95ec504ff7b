use Rattle.std.proofs.Common.{◌≡◌, ◌<◌, ◌++◌, length, map, get_or, sym, Vec, Global, List, ap, ◌∙◌, arith}
use Rattle.std.specs.List.{list_any}
use Rattle.std.proofs.lemmas.List.{length-map}
use Rattle.std.proofs.lemmas.Result.{err_from_is_err_and}
use Rattle.wvalues.specs.declared.value.Value.{Value}
use Rattle.wvalues.specs.Meaning.{meaning}
use Rattle.wframe.specs.Places.{places}
use Rattle.wsort.specs.LaidRows.{laid}
use Rattle.wrows.specs.Picked.{row_beside}
use Rattle.wrows.specs.Columns.{Row, is_out_of_range, value_on}
use Rattle.wrows.specs.Laid.{formulas_seen, formula_seen, rows_seen}
use Rattle.wrows.proofs.RowFacts.{any_next, flat_next, ok_is_false, refused, length-places}
use Rattle.wrows.proofs.BesideFacts.{any_beside, beside_filled, beside_lists, filled_is, place_is}
use Rattle.wrows.proofs.joined.joined_lists.Goals as goal

pub returns-in_err-push_values-clause-gives : goal.returns-in_err-push_values-clause-gives
returns-in_err-push_values-clause-gives c =
    let p = err_from_is_err_and c.from_residual-in_err-push_values.result c.from_residual-in_err-push_values.ensures.1 in
    let ts = formulas_seen c.args.exprs.now in
    let rows = c.args.extended.now.rows.now in
    let columns = c.args.extended.now.columns.now in
    let i = c.loop-number.number in
    let view : Vec Value Global → List Row = λ cells. laid (length c.args.exprs.now) (length rows) cells.items in
    let here : map meaning c.deref.result.now ≡ row_beside (rows_seen rows) (rows_seen columns) i
    = ap (map meaning) c.deref.ensures.value ∙ filled_is rows columns i c.row-item.result _ c.loop-number-test.true
    c.row-item.is c.in_ok-fill.ensures in
    rw (p.1, p.2) (refused view c.in_err-push_values.field-0.0 _ _ _ c.in_err-push_values.ensures.gives
    (λ (b : list_any (λ t. is_out_of_range t (map meaning c.deref.result.now)) ts ≡ _). any_beside
    (λ row. list_any (λ t. is_out_of_range t row) ts) rows columns i _ here c.loop-number-test.true b))

pub loop-number-preserved : goal.loop-number-preserved
loop-number-preserved c =
    let ts = formulas_seen c.args.exprs.now in
    let rows = c.args.extended.now.rows.now in
    let columns = c.args.extended.now.columns.now in
    let i = c.loop-number.number in
    let here : map meaning c.deref.result.now ≡ row_beside (rows_seen rows) (rows_seen columns) i
    = ap (map meaning) c.deref.ensures.value ∙ filled_is rows columns i c.row-item.result _ c.loop-number-test.true
    c.row-item.is c.in_ok-fill.ensures in
    let within : i < length (places (length rows)) = omega (arith, c.loop-number-test.true, length-places 0 (length rows)) in
    let at : i ≡ get_or (places (length rows)) i i = place_is (length rows) i c.loop-number-test.true in
    record {
      in_range = any_next _ (places (length rows)) i i within at c.loop-number.invariant.in_range
          (ap (λ row. list_any (λ t. is_out_of_range t row) ts) (sym here) ∙ ok_is_false _ _ _ c.in_ok-push_values.ensures.gives);
      so_far = flat_next _ (places (length rows)) i i _ _ within at c.loop-number.invariant.so_far
          (c.in_ok-push_values.ensures.added ∙ ap (λ row. map meaning c.loop-number.cells.items ++ map (λ t. value_on t row) ts) here);
    }

pub returns-clause-gives : goal.returns-clause-gives
returns-clause-gives c =
    beside_lists (formulas_seen c.args.exprs.now) (length c.args.exprs.now) c.args.extended.now.rows.now c.args.extended.now.columns.now
    c.loop-number.cells.items c.loop-number.number (length-map c.args.exprs.now formula_seen) c.loop-number-test.false
    c.loop-number.invariant.in_range c.loop-number.invariant.so_far

pub returns-clause-laid : goal.returns-clause-laid
returns-clause-laid c =
    beside_filled (formulas_seen c.args.exprs.now) (length c.args.exprs.now) c.args.extended.now.rows.now c.args.extended.now.columns.now
    c.loop-number.cells.items c.loop-number.number (length-map c.args.exprs.now formula_seen) c.loop-number-test.false
    c.loop-number.invariant.so_far
