use Rattle.std.proofs.Common.{◌≡◌, take}
use Rattle.wrows.specs.Laid.{rows_in, rows_seen}
use Rattle.wrows.proofs.lent.lent_rows.Given as goal

abbrev pub invariant-loop-row : goal.invariant-loop-row
invariant-loop-row l = rows_seen l.rows.items ≡ take l.row (rows_in l.cells)
