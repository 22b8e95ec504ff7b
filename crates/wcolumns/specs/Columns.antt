-- What columns have for rows, by the numbers of the rows.
use Rattle.std.specs.Prelude.{ℕ, zero, suc, pos, List, map, slice_index_or}
use Rattle.std.specs.Borrow.{Bor}
use Rattle.std.specs.declared.alloc.Global.{Global}
use Rattle.std.specs.declared.vec.Vec.{Vec}
use Rattle.wvalues.specs.declared.value.Value.{Value}
use Rattle.wvalues.specs.Meaning.{Meaning, Int, Null, meaning}
use Rattle.wcolumns.specs.declared.column.Column.{Column}
use Rattle.wcolumns.specs.declared.column.LentColumn.{LentColumn}
use Rattle.wcolumns.specs.declared.column.Column.TheVariants as columns
use Rattle.wcolumns.specs.declared.field.Field.{Field}
use Rattle.wcolumns.specs.declared.field.Field.TheVariants as fields
use Rattle.wcolumns.specs.declared.other_rows.OtherRows.{OtherRows}
use Rattle.wcolumns.specs.declared.values.ColumnValues.{ColumnValues}
use Rattle.wcolumns.specs.declared.values.ColumnValues.TheVariants as values

-- the value at a place of each row, a null behind its width
abbrev pub placed : ℕ → List (Bor (List Value)) → List Meaning
placed place rows = map (λ row. slice_index_or (map meaning row.now) place Null) rows

abbrev pub values_seen : ColumnValues → List Meaning
values_seen (values.Evaluated cells) = map meaning cells.value.items
values_seen (values.Plain rows place) = placed place rows.now

-- the value of the row that is kept as one more than its number, or a default
abbrev pub value_of_number : List Meaning → Meaning → ℕ → Meaning
value_of_number values default zero = default
value_of_number values default (suc row) = slice_index_or values row Null

abbrev pub read_in : OtherRows → List Meaning
read_in others = map (value_of_number (values_seen others.values) (meaning others.default)) others.numbers.items

abbrev pub counted : ℕ → Meaning
counted count = Int (pos count)

abbrev pub column_seen : Column → List Meaning
column_seen (columns.Values cells) = map meaning cells.items
column_seen (columns.Counts counts) = map counted counts.items
column_seen (columns.Others others) = read_in others

abbrev pub columns_in : Vec Column Global → List (List Meaning)
columns_in columns = map column_seen columns.items

-- columns that are lent
abbrev pub columns_seen : List LentColumn → List (List Meaning)
columns_seen = map (λ lent. column_seen lent.column.now)

abbrev pub field_seen : Field → Meaning
field_seen (fields.Value value) = meaning value.now
field_seen (fields.Count count) = counted count
