-- How a table is kept: its cells one row after another.
use Rattle.std.specs.Prelude.{◌≡◌, ◌*◌, length, map}
use Rattle.std.specs.Rc.{rc_str_bytes}
use Rattle.wrows.specs.LaidRows.{laid}
use Rattle.wplanner.specs.Parts.{TableParts}
use Rattle.wplanner.specs.declared.table.Table.TheInside.{Inside}

abbrev pub parts_of : Inside → TableParts
parts_of a = record {
  names = map rc_str_bytes a.names.items;
  rows = laid (length a.names.items) a.rows a.cells.items;
}

-- the cells are whole rows
pub record IsKept (a : Inside) : Type 0 where
  pub filled : length a.cells.items ≡ a.rows * length a.names.items
