use Rattle.std.proofs.Common.{◌∙◌, ◌-◌, ◌<◌, [], drop, length, map, sym, ap, arith}
use Rattle.std.proofs.lemmas.List.{get_or-map, length-map}
use Rattle.wprinted.specs.Beside.{values_of}
use Rattle.wprinted.specs.Printing.{values_at}
use Rattle.wprinted.proofs.TextLines.{lines-back}
use Rattle.wprinted.proofs.batch.write_lines.Goals as goal

pub loop-row-preserved : goal.loop-row-preserved
loop-row-preserved g c =
    let all = g.R.Rows.rows c.args.printed.now.rows.now in
    let values = values_at c.args.printed.now.places.now in
    let row = c.loop-row.row in
    let inv = c.loop-row.invariant in
    let some : 0 < row = omega (arith, c.loop-row-test.true) in
    let within : row - 1 < length all = omega (arith, some, inv.last, c.requires.within) in
    record {
      written = lines-back (map values all) row c.args.batch.end (values (values_of c.row.result)) (drop c.loop-row.start c.loop-row.lines)
          (drop c.in-Some.before c.write_line.new.line) some inv.last (omega (arith, c.requires.within, length-map all values))
          (ap values c.row.ensures ∙ sym (get_or-map values all (row - 1) [] [] within)) inv.written c.in-Some.ensures.written;
      start = omega (arith, c.in-Some.ensures.within, c.in-Some.ensures.room, inv.start);
      first = omega (arith, c.loop-row-test.true);
      last = omega (arith, inv.last);
    }
