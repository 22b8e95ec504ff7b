use Rattle.std.proofs.Common.{◌≡◌, List, Vec, Global, length, subst, sym, ap, ◌∙◌}
use Rattle.wvalues.specs.declared.value.Value.{Value}
use Rattle.wrows.specs.Outcomes.{Gives}
use Rattle.wrows.specs.Columns.{Row, beside, lists_of}
use Rattle.wsort.specs.LaidRows.{laid}
use Rattle.wrows.specs.Laid.{formulas_seen, rows_seen}
use Rattle.wrows.proofs.RowFacts.{zero_length}
use Rattle.wrows.proofs.PickFacts.{beside_none, no_columns}
use Rattle.wrows.proofs.listing.evaluated_lists.Goals as goal

pub returns-then-is_empty-clause-gives : goal.returns-then-is_empty-clause-gives
returns-then-is_empty-clause-gives c =
    let rows = rows_seen c.args.extended.now.rows.now in
    let columns = c.args.extended.now.columns.now in
    let view : Vec Value Global → List Row = λ cells. laid (length c.args.exprs.now) (length c.args.extended.now.rows.now) cells.items in
    let P : List Row → Type 0 = λ all. Gives view c.row_lists.result (lists_of (formulas_seen c.args.exprs.now) all) in
    let none : rows ≡ beside rows (rows_seen columns) =
    sym (ap (λ l. beside rows (rows_seen l)) (no_columns columns (zero_length columns c.if-is_empty.ensures)) ∙ beside_none rows) in
    subst P none c.row_lists.ensures.gives
