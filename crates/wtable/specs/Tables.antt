-- The rows of the table: those that a set's live segments hold.
use Rattle.std.specs.Prelude.{List, map}
use Rattle.wsegment.specs.Declaration.{Declaration}
use Rattle.wset.specs.Views.{View}
use Rattle.wset.specs.Sets.{DeclaredView}
use Rattle.wset.specs.Tables.{table_of}
use Rattle.wrows.specs.Columns.{Row}

-- by name, then by place
abbrev pub rows_of_view : Declaration → View → List Row
rows_of_view d v = map (λ row. row.cells) (table_of d v)

abbrev pub rows_of_set : DeclaredView → List Row
rows_of_set s = rows_of_view s.schema s.view
