use Rattle.std.proofs.Common.{◌≡◌, ◌≤◌, drop, length, map}
use Rattle.wprinted.specs.Printing.{lines_text, rows_between, values_at}
use Rattle.wprinted.proofs.batch.write_lines.Given as goal

abbrev pub invariant-loop-row : goal.invariant-loop-row
invariant-loop-row g l = record {
  written : drop l.start l.lines
      ≡ lines_text (rows_between l.row l.fn.batch.end (map (values_at l.printed.places.now) (g.R.Rows.rows l.printed.rows.now)));
  start : l.start ≤ length l.lines;
  first : l.fn.batch.from ≤ l.row;
  last : l.row ≤ l.fn.batch.end;
}

abbrev pub decreases-loop-row : goal.decreases-loop-row
decreases-loop-row g l = l.row
