use Rattle.std.proofs.Common.{◌∙◌, ◌<◌, [], length, map, sym, ap, arith}
use Rattle.std.proofs.lemmas.List.{get_or-map, length-map}
use Rattle.wprinted.specs.Beside.{values_of}
use Rattle.wprinted.specs.Printing.{values_at}
use Rattle.wprinted.proofs.TextLines.{lines-more}
use Rattle.wprinted.proofs.batch.push_each.Goals as goal

pub loop-row-preserved : goal.loop-row-preserved
loop-row-preserved g c =
    let all = g.R.Rows.rows c.args.printed.now.rows.now in
    let values = values_at c.args.printed.now.places.now in
    let row = c.loop-row.row in
    let within : row < length all = omega (arith, c.loop-row-test.true, c.requires.within) in
    lines-more (map values all) c.args.batch.from row (values (values_of c.row.result)) c.args.bytes.now.items
    c.loop-row.bytes.items c.push_values.new.bytes.items (omega arith) (omega (arith, within, length-map all values))
    (ap values c.row.ensures ∙ sym (get_or-map values all row [] [] within)) c.loop-row.invariant c.in_ok-push_values.ensures
