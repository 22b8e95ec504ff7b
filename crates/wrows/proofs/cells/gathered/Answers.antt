use Rattle.std.proofs.Common.{◌<◌, ◌++◌, length, map, take_all, get_or, sym, ap, ◌∙◌}
use Rattle.std.specs.List.{flat_map}
use Rattle.std.proofs.lemmas.List.Elements.{recursion_from_All, All-get_or}
use Rattle.wvalues.specs.Meaning.{meaning}
use Rattle.wsort.specs.LaidRows.{laid}
use Rattle.wframe.specs.Peers.{key_at}
use Rattle.wrows.proofs.RowFacts.{flat_next, laid_rows, row_at, rows_wide, same_at, laid_length}
use Rattle.std.proofs.lemmas.List.{length-map}
use Rattle.wrows.proofs.cells.gathered.Goals as goal

pub loop-number-preserved : goal.loop-number-preserved
loop-number-preserved c =
    let numbers = c.args.numbers.now in
    let i = c.loop-number.number-index in
    let cells = c.args.cells.now in
    let there : get_or numbers i 0 < c.args.count = All-get_or (λ k. k < c.args.count) numbers i 0 c.loop-number-test.true
    c.requires.numbers in
    flat_next (key_at (laid c.args.width c.args.count cells)) numbers i (get_or numbers i 0)
    (map meaning c.loop-number.rows.items) (map meaning c.push_row.new.out.items) c.loop-number-test.true
    (same_at numbers i 0 (get_or numbers i 0) c.loop-number-test.true) c.loop-number.invariant
    (c.in_ok-push_row.ensures ∙ ap (λ l. map meaning c.loop-number.rows.items ++ map meaning l) c.slice_of.ensures.list
    ∙ ap (λ l. map meaning c.loop-number.rows.items ++ l) (sym (row_at c.args.width c.args.count cells (get_or numbers i 0) there)))

pub returns-clause-rows : goal.returns-clause-rows
returns-clause-rows c =
    let numbers = c.args.numbers.now in
    let lists = laid c.args.width c.args.count c.args.cells.now in
    laid_rows c.args.width (key_at lists) numbers (rows_wide c.args.width c.args.count c.args.cells.now c.requires.laid
    numbers (recursion_from_All (λ k. k < c.args.count) numbers c.requires.numbers)) c.loop-number.rows.items
    (c.loop-number.invariant ∙ ap (flat_map (key_at lists)) (take_all c.loop-number.number-index numbers c.loop-number-test.false))

pub returns-clause-laid : goal.returns-clause-laid
returns-clause-laid c =
    let numbers = c.args.numbers.now in
    let lists = laid c.args.width c.args.count c.args.cells.now in
    sym (length-map c.loop-number.rows.items meaning) ∙ ap length c.loop-number.invariant
    ∙ ap (λ xs. length (flat_map (key_at lists) xs)) (take_all c.loop-number.number-index numbers c.loop-number-test.false)
    ∙ laid_length c.args.width (key_at lists) numbers (rows_wide c.args.width c.args.count c.args.cells.now c.requires.laid
    numbers (recursion_from_All (λ k. k < c.args.count) numbers c.requires.numbers))
