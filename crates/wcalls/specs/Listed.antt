-- Lists of values of rows, as an order holds them.
use Rattle.std.specs.Prelude.{ℕ, List, Bool, true, false, length}
use Rattle.wvalues.specs.Meaning.{Meaning}
use Rattle.wrows.specs.Laid.{rows_in, rows_seen}
use Rattle.wcalls.specs.ListedColumns.{values_at}
use Rattle.wcalls.specs.declared.row_lists.RowLists.{RowLists}
use Rattle.wcalls.specs.declared.row_lists.RowLists.TheVariants.{Evaluated, Plain}

-- the list of each row
abbrev pub lists_in : RowLists → List (List Meaning)
lists_in (Evaluated cells) = rows_in cells
lists_in (Plain columns) = values_at columns.places.items (rows_seen columns.rows.now)

-- how many values each list has
abbrev pub width_of : RowLists → ℕ
width_of (Evaluated cells) = cells.width
width_of (Plain columns) = length columns.places.items

-- whether they are lent from the rows
abbrev pub are_lent : RowLists → Bool
are_lent (Evaluated cells) = false
are_lent (Plain columns) = true
