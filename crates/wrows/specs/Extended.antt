-- Rows with what columns have for them behind their cells.
use Rattle.std.specs.Prelude.{ℕ, List}
use Rattle.wrows.specs.declared.extended.ExtendedRows.{ExtendedRows}
use Rattle.wrows.specs.Columns.{Row, beside}
use Rattle.wrows.specs.Laid.{rows_seen}
use Rattle.wrows.specs.Picked.{picked, row_beside}

-- all of them
abbrev pub extended_rows : ExtendedRows → List Row
extended_rows e = beside (rows_seen e.rows.now) (rows_seen e.columns.now)

-- the row of a number
abbrev pub extended_row : ExtendedRows → ℕ → Row
extended_row e = row_beside (rows_seen e.rows.now) (rows_seen e.columns.now)

-- its values at some places
abbrev pub picked_of : List ℕ → ExtendedRows → ℕ → Row
picked_of places e = picked places (rows_seen e.rows.now) (rows_seen e.columns.now)
