-- Rows with what some columns have for them behind their own cells.
use Rattle.std.specs.Prelude.{ℕ, List, [], ◌++◌, drop, length, map, take, slice_index_or}
use Rattle.std.specs.Borrow.{Bor}
use Rattle.std.specs.List.{range_with_len}
use Rattle.wvalues.specs.declared.value.Value.{Value}
use Rattle.wvalues.specs.Meaning.{Meaning, Null, meaning}
use Rattle.wcolumns.specs.Columns.{columns_seen}
use Rattle.wprinted.specs.declared.row.Row.{Row}

-- a row's own cells, and behind them what each column has for its number
abbrev pub whole : List Meaning → List (List Meaning) → ℕ → List Meaning
whole own columns number = own ++ map (λ column. slice_index_or column number Null) columns

-- cells that are lent
abbrev pub seen : List (Bor (List Value)) → List (List Meaning)
seen = map (λ cells. map meaning cells.now)

-- the values of a row
abbrev pub values_of : Row → List Meaning
values_of row = whole (map meaning row.cells.now) (columns_seen row.columns.now) row.number

-- the rows of some numbers
abbrev pub rows_at : List (List Meaning) → List (List Meaning) → List ℕ → List (List Meaning)
rows_at rows columns numbers = map (λ number. whole (slice_index_or rows number []) columns number) numbers

-- all of them, by number
abbrev pub rows_beside : List (List Meaning) → List (List Meaning) → List (List Meaning)
rows_beside rows columns = rows_at rows columns (range_with_len 0 (length rows))

-- so many of them, from one on
abbrev pub rows_from : List (List Meaning) → List (List Meaning) → ℕ → ℕ → List (List Meaning)
rows_from rows columns from count = take count (drop from (rows_beside rows columns))
