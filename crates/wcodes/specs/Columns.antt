-- Columns of values, by the numbers of rows.
use Rattle.std.specs.Prelude.{ℕ, List, slice_index_or}
use Rattle.wvalues.specs.Meaning.{Meaning, Null}

-- the value of a column on the row of a number
abbrev pub value_at : List Meaning → ℕ → Meaning
value_at column i = slice_index_or column i Null
