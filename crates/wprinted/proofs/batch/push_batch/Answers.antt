use Rattle.std.proofs.Common.{◌∙◌, ◌++◌, map, ap, append_assoc, arith}
use Rattle.std.proofs.lemmas.List.{length-map, take_rest}
use Rattle.wprinted.specs.Printing.{lines_text, rows_between, values_at}
use Rattle.wprinted.proofs.TextLines.{lines-join}
use Rattle.wprinted.proofs.batch.push_batch.Goals as goal

pub returns : goal.returns
returns g c =
    let all = g.R.Rows.rows c.args.printed.now.rows.now in
    let values = values_at c.args.printed.now.places.now in
    let written = c.write_lines-written in
    let from = c.args.batch.from in
    let end = c.args.batch.end in
    let row = written.result.row in
    c.in_ok-extend_from_slice.ensures.items
    ∙ ap (λ behind. c.push_each.new.bytes.items ++ behind) (take_rest written.new.lines written.result.start ∙ written.ensures.written)
    ∙ ap (λ front. front ++ lines_text (rows_between row end (map values all))) c.in_ok-push_each.ensures
    ∙ append_assoc c.args.bytes.now.items (lines_text (rows_between from row (map values all)))
    (lines_text (rows_between row end (map values all)))
    ∙ ap (λ lines. c.args.bytes.now.items ++ lines) (lines-join (map values all) from row end written.ensures.first
    written.ensures.last (omega (arith, c.requires.within, length-map all values)))
