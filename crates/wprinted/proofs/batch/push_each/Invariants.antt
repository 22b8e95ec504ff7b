use Rattle.std.proofs.Common.{◌≡◌, ◌++◌, map}
use Rattle.wprinted.specs.Printing.{lines_text, rows_between, values_at}
use Rattle.wprinted.proofs.batch.push_each.Given as goal

abbrev pub invariant-loop-row : goal.invariant-loop-row
invariant-loop-row g l = l.bytes.items ≡ l.fn.bytes.items
    ++ lines_text (rows_between l.fn.batch.from l.row (map (values_at l.printed.places.now) (g.R.Rows.rows l.printed.rows.now)))
