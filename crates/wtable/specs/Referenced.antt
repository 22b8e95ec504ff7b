-- Rows of segments that references tell.
use Rattle.std.specs.Prelude.{List, [], slice_index_or}
use Rattle.wrows.specs.Columns.{Row}
use Rattle.wruns.specs.declared.refs.RowRef.{RowRef}

-- the row that a reference tells, without values where there is none
abbrev pub referenced_row : List (List Row) → RowRef → Row
referenced_row segments r = slice_index_or (slice_index_or segments r.segment []) r.row []
