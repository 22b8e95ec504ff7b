use Rattle.std.proofs.Common.{◌∙◌, ◌++◌, ◌≤◌, map, ap, append_assoc, arith}
use Rattle.std.proofs.lemmas.List.{length-map}
use Rattle.wprinted.specs.Printing.{lines_text, rows_between, values_at}
use Rattle.wprinted.proofs.TextLines.{lines-join}
use Rattle.wprinted.proofs.printing.push_rows.Goals as goal

pub loop-row-preserved : goal.loop-row-preserved
loop-row-preserved g c =
    let all = g.R.Rows.rows c.args.printed.now.rows.now in
    let values = values_at c.args.printed.now.places.now in
    let row = c.loop-row.row in
    let end = c.min-end.result in
    let rises : row ≤ end = omega (arith, c.loop-row-test.true, c.min-end.ensures, c.saturating_add.ensures) in
    let within : end ≤ c.count-count.result = omega (arith, c.min-end.ensures) in
    record {
      written = c.in_ok-push_batch.ensures
          ∙ ap (λ front. front ++ lines_text (rows_between row end (map values all))) (c.look_ahead.ensures ∙ c.foresee.ensures
          ∙ c.loop-row.invariant.written)
          ∙ append_assoc c.args.bytes.now.items (lines_text (rows_between 0 row (map values all)))
          (lines_text (rows_between row end (map values all)))
          ∙ ap (λ lines. c.args.bytes.now.items ++ lines) (lines-join (map values all) 0 row end (omega arith) rises
          (omega (arith, within, c.count-count.ensures, length-map all values)));
      within = within;
    }
