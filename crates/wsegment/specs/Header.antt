-- The header as an assignment of columns: the column that each field names.
use Rattle.std.specs.Prelude.{ℕ, Bool, List, [], ◌∷◌, ◌++◌, map, position, slice_index_or}
use Rattle.std.specs.Prelude.{if◌then◌else◌, Option, Some, None, Result, Ok, Err}
use Rattle.std.specs.Borrow.{Bor}
use Rattle.std.specs.List.{find, list_all, list_any}
use Rattle.std.specs.Option.{is_some}
use Rattle.std.specs.Str.{bytes_eq, is_utf8}
use Rattle.wvalues.specs.Meaning.{Meaning, Null}
use Rattle.wsegment.specs.Declaration.{Described}
use Rattle.wsegment.specs.Outcome.{◌>>=◌}
use Rattle.wsegment.specs.declared.kind.Kind.{Kind}
use Rattle.wsegment.specs.declared.fault.SegmentFault.{SegmentFault}
use Rattle.wsegment.specs.declared.fault.SegmentFault.TheVariants as faults

-- the columns behind references
abbrev pub all_now : List (Bor Described) → List Described
all_now columns = map (λ c. c.now) columns

-- the column of a name
abbrev pub column_named : List ℕ → List Described → Option Described
column_named name columns = find (λ c. bytes_eq c.name name) columns

-- a column that no earlier field names
abbrev pub fresh : List Described → Option Described → Result Described SegmentFault
fresh earlier None = Err faults.UnknownColumn
fresh earlier (Some c) = if list_any (λ other. bytes_eq other.name c.name) earlier then Err faults.RepeatedColumn else Ok c

-- the column that a field names, behind those of earlier fields
unfoldable pub named : List Described → List Described → List ℕ → Result Described SegmentFault
named columns earlier field = if is_utf8 field then fresh earlier (column_named field columns) else Err faults.HeaderNotUtf8

-- the columns that fields name from left to right, behind those of earlier fields
unfoldable pub named_each : List Described → List Described → List (List ℕ) → Result (List Described) SegmentFault
named_each columns earlier [] = Ok []
named_each columns earlier (f ∷ fs) = named columns earlier f >>= λ c. named_each columns (earlier ++ c ∷ []) fs >>= λ cs. Ok (c ∷ cs)

-- the field of a column
abbrev pub field_of : List Described → Described → Option ℕ
field_of header c = position (λ other. bytes_eq other.name c.name) header

-- each column of the table has a field
abbrev pub is_complete : List Described → List Described → Bool
is_complete columns header = list_all (λ c. is_some (field_of header c)) columns

abbrev pub kinds_of : List Described → List Kind
kinds_of header = map (λ c. c.kind) header

-- the cell at a field
abbrev pub cell_at : List Meaning → Option ℕ → Meaning
cell_at cells None = Null
cell_at cells (Some field) = slice_index_or cells field Null

-- a row's cells in the order of the table's columns
abbrev pub in_table_order : List Described → List Described → List Meaning → List Meaning
in_table_order columns header cells = map (λ c. cell_at cells (field_of header c)) columns
