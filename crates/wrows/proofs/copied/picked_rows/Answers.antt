use Rattle.std.proofs.Common.{◌++◌, length, map, sym, ap, ◌∙◌}
use Rattle.std.specs.List.{flat_map}
use Rattle.std.proofs.lemmas.List.{length-map}
use Rattle.wvalues.specs.Meaning.{meaning}
use Rattle.wrows.specs.Laid.{rows_seen}
use Rattle.wrows.specs.Picked.{picked}
use Rattle.wrows.proofs.PickFacts.{picked_wide}
use Rattle.wrows.proofs.RowFacts.{laid_length, laid_rows}
use Rattle.wrows.proofs.copied.picked_rows.Goals as goal

pub returns-clause-rows : goal.returns-clause-rows
returns-clause-rows c =
    let places = c.args.places.now in
    let numbers = c.args.numbers.now in
    let rows = rows_seen c.args.extended.now.rows.now in
    let columns = rows_seen c.args.extended.now.columns.now in
    let listed = c.in_ok-push_rows.ensures
    ∙ ap (λ cells. map meaning cells ++ flat_map (picked places rows columns) numbers) c.in_ok-cells.ensures.items in
    laid_rows (length places) (picked places rows columns) numbers (picked_wide places rows columns numbers)
    c.push_rows.new.cells.items listed

pub returns-clause-laid : goal.returns-clause-laid
returns-clause-laid c =
    let places = c.args.places.now in
    let numbers = c.args.numbers.now in
    let rows = rows_seen c.args.extended.now.rows.now in
    let columns = rows_seen c.args.extended.now.columns.now in
    let listed = c.in_ok-push_rows.ensures
    ∙ ap (λ cells. map meaning cells ++ flat_map (picked places rows columns) numbers) c.in_ok-cells.ensures.items in
    sym (length-map c.push_rows.new.cells.items meaning) ∙ ap length listed
    ∙ laid_length (length places) (picked places rows columns) numbers (picked_wide places rows columns numbers)
