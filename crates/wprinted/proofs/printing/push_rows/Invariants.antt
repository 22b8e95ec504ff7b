use Rattle.std.proofs.Common.{◌≡◌, ◌-◌, ◌≤◌, ◌++◌, map}
use Rattle.wprinted.specs.Printing.{lines_text, rows_between, values_at}
use Rattle.wprinted.proofs.printing.push_rows.Given as goal

abbrev pub invariant-loop-row : goal.invariant-loop-row
invariant-loop-row g l = record {
  written : l.bytes.items ≡ l.fn.bytes.items
      ++ lines_text (rows_between 0 l.row (map (values_at l.printed.places.now) (g.R.Rows.rows l.printed.rows.now)));
  within : l.row ≤ l.count;
}

abbrev pub decreases-loop-row : goal.decreases-loop-row
decreases-loop-row g l = l.count - l.row
