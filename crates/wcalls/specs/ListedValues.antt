-- The values that a column has, lent or made.
use Rattle.std.specs.Prelude.{Bool, true, false, List, map}
use Rattle.wvalues.specs.Meaning.{Meaning, meaning}
use Rattle.wcolumns.specs.declared.column.Column.{Column}
use Rattle.wcolumns.specs.declared.column.Column.TheVariants as columns
use Rattle.wcalls.specs.declared.listing.ListedColumn.{ListedColumn}
use Rattle.wcalls.specs.declared.listing.ListedColumn.TheVariants.{Lent, Made}

abbrev pub listed_seen : ListedColumn → List Meaning
listed_seen (Lent values) = map meaning values.now
listed_seen (Made values) = map meaning values.items

-- they are lent, and no list was made of them
abbrev pub is_lent : ListedColumn → Bool
is_lent (Lent values) = true
is_lent (Made values) = false

-- a column that keeps values, which can be lent
abbrev pub keeps_values : Column → Bool
keeps_values (columns.Values values) = true
keeps_values (columns.Counts counts) = false
keeps_values (columns.Others others) = false
