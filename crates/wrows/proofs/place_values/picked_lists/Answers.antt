use Rattle.std.proofs.Common.{◌≡◌, ◌*◌, ◌++◌, [], ℕ, length, map, refl, sym, ap, ◌∙◌, arith}
use Rattle.std.specs.List.{flat_map}
use Rattle.std.proofs.lemmas.List.{flat_map_more, length-map}
use Rattle.wvalues.specs.Meaning.{meaning}
use Rattle.wframe.specs.Places.{places}
use Rattle.wrows.specs.Extended.{picked_of}
use Rattle.wrows.specs.Laid.{rows_seen}
use Rattle.wrows.specs.Columns.{value_at}
use Rattle.wrows.specs.Picked.{picked, with_columns}
use Rattle.wrows.proofs.PickFacts.{all_picked, picked_wide}
use Rattle.wrows.proofs.RowFacts.{laid_length, laid_rows, length-places, places_more}
use Rattle.wrows.proofs.place_values.picked_lists.Goals as goal

pub loop-row-preserved : goal.loop-row-preserved
loop-row-preserved c =
    let f = picked_of c.args.places.now c.args.extended.now in
    let row = c.loop-row.row in
    c.in_ok-push_picked.ensures
    ∙ ap (λ own. map meaning c.loop-row.cells.items ++ map (value_at (with_columns own (rows_seen c.args.extended.now.columns.now) row))
    c.args.places.now) c.cells_at.ensures
    ∙ ap (λ l. l ++ f row) c.loop-row.invariant ∙ flat_map_more f [] (places row) row
    ∙ ap (flat_map f) (sym (places_more 0 row row (omega arith)))

pub returns-clause-gives : goal.returns-clause-gives
returns-clause-gives c =
    let ps = c.args.places.now in
    let rows = rows_seen c.args.extended.now.rows.now in
    let columns = rows_seen c.args.extended.now.columns.now in
    let n : ℕ = length c.args.extended.now.rows.now in
    let end : c.loop-row.row ≡ n = omega arith in
    let long : length (places n) ≡ n = length-places 0 n in
    let listed = laid_rows (length ps) (picked ps rows columns) (places n) (picked_wide ps rows columns (places n))
    c.loop-row.cells.items (c.loop-row.invariant ∙ ap (λ k. flat_map (picked ps rows columns) (places k)) end) in
    all_picked ps c.args.extended.now.rows.now c.args.extended.now.columns.now (places n) c.loop-row.cells.items refl listed

pub returns-clause-laid : goal.returns-clause-laid
returns-clause-laid c =
    let ps = c.args.places.now in
    let rows = rows_seen c.args.extended.now.rows.now in
    let columns = rows_seen c.args.extended.now.columns.now in
    let n : ℕ = length c.args.extended.now.rows.now in
    let end : c.loop-row.row ≡ n = omega arith in
    sym (length-map c.loop-row.cells.items meaning) ∙ ap length c.loop-row.invariant
    ∙ ap (λ k. length (flat_map (picked ps rows columns) (places k))) end
    ∙ laid_length (length ps) (picked ps rows columns) (places n) (picked_wide ps rows columns (places n))
    ∙ ap (λ k. k * length ps) (length-places 0 n)
