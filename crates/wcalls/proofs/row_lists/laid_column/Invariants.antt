use Rattle.std.proofs.Common.{◌≡◌, take}
use Rattle.wrows.specs.CodedRows.{key_column, values_seen}
use Rattle.wrows.specs.Laid.{rows_in}
use Rattle.wcalls.proofs.row_lists.laid_column.Given as goal

abbrev pub invariant-loop-row : goal.invariant-loop-row
invariant-loop-row l = values_seen l.column.items ≡ take l.row (key_column l.number (rows_in l.cells))
