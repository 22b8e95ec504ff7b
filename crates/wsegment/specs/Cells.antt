-- The typed cells of rows, in the order of the header, or the first fault.
use Rattle.std.specs.Prelude.{◌==◌, ◌+◌, nat_lt, ℕ, ℤ, List, [], ◌∷◌, length, if◌then◌else◌, Option, Some, None, Result, Ok, Err}
use Rattle.std.specs.Str.{is_utf8}
use Rattle.wvalues.specs.Meaning.{Meaning, Null, Int, Text}
use Rattle.wsegment.specs.Integer.{integer_of}
use Rattle.wsegment.specs.Outcome.{◌>>=◌}
use Rattle.wsegment.specs.declared.kind.Kind.{Kind}
use Rattle.wsegment.specs.declared.kind.Kind.TheVariants as kinds
use Rattle.wsegment.specs.declared.fault.SegmentFault.{SegmentFault}
use Rattle.wsegment.specs.declared.fault.SegmentFault.TheVariants as faults

abbrev pub number_cell : ℕ → Option ℤ → Result Meaning SegmentFault
number_cell row None = Err (faults.NotInteger row)
number_cell row (Some n) = Ok (Int n)

-- a field that is not empty, by what its column holds
abbrev pub typed : ℕ → Kind → List ℕ → Result Meaning SegmentFault
typed row kinds.Text text = Ok (Text text)
typed row kinds.Integer text = number_cell row (integer_of text)

-- what a field of a row says; an empty one is null
unfoldable pub cell_of : ℕ → Kind → List ℕ → Result Meaning SegmentFault
cell_of row kind field =
    if is_utf8 field then (if length field == 0 then Ok Null else typed row kind field)
    else Err (faults.RowNotUtf8 row)

-- the cells of a row from left to right
unfoldable pub cells_of : ℕ → List Kind → List (List ℕ) → Result (List Meaning) SegmentFault
cells_of row [] fields = Ok []
cells_of row (k ∷ ks) [] = Ok []
cells_of row (k ∷ ks) (f ∷ fs) = cell_of row k f >>= λ x. cells_of row ks fs >>= λ xs. Ok (x ∷ xs)

-- a row has as many fields as the header
unfoldable pub row_of : ℕ → List Kind → List (List ℕ) → Result (List Meaning) SegmentFault
row_of row ks fields = if length fields == length ks then cells_of row ks fields else Err (faults.RowLength row)

-- the row behind so many, as far as there may be one more
abbrev pub row_behind : ℕ → List Kind → List (List ℕ) → Result (List Meaning) SegmentFault
row_behind count ks fields = if count == 1000000 then Err faults.TooManyRows else row_of (count + 1) ks fields

-- the rows from this number on, up to the millionth
unfoldable pub rows_from : List Kind → ℕ → List (List (List ℕ)) → Result (List (List Meaning)) SegmentFault
rows_from ks row [] = Ok []
rows_from ks row (r ∷ rs) =
    if nat_lt 1000000 row then Err faults.TooManyRows
    else (row_of row ks r >>= λ x. rows_from ks (row + 1) rs >>= λ xs. Ok (x ∷ xs))
