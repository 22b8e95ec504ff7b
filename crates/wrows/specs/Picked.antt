-- The rows that are asked for, by number, and values at places of rows that have columns behind their cells.
use Rattle.std.specs.Prelude.{ℕ, ◌++◌, Bool, true, false, List, length, map, take, Option, Result, Ok}
use Rattle.wvalues.specs.declared.key.SortKey.{SortKey}
use Rattle.wvalues.specs.Meaning.{Meaning, Null, Int, Text}
use Rattle.wframe.specs.Peers.{key_at}
use Rattle.wplan.specs.Formula.{Formula}
use Rattle.wrows.specs.declared.fault.AnswerFault.{AnswerFault}
use Rattle.wrows.specs.Outcomes.{◌>>=◌}
use Rattle.wrows.specs.Columns.{Row, lists_of, value_at}
use Rattle.wrows.specs.Plain.{cut, numbers_by}

-- a row's own cells, and behind them what the columns have for it
abbrev pub with_columns : Row → List (List Meaning) → ℕ → Row
with_columns own columns i = own ++ map (λ column. value_at column i) columns

-- the row of a number, with what the columns have for it
abbrev pub row_beside : List Row → List (List Meaning) → ℕ → Row
row_beside rows columns i = with_columns (key_at rows i) columns i

-- its values at some places
abbrev pub picked : List ℕ → List Row → List (List Meaning) → ℕ → Row
picked places rows columns i = map (value_at (row_beside rows columns i)) places

-- the numbers of the rows that are asked for, in order. All keys are evaluated, on every row
abbrev pub asked_of : List Formula → List SortKey → ℕ → Option ℕ → List Row → Result (List ℕ) AnswerFault
asked_of keys order offset limit rows = lists_of keys rows >>= λ by. Ok (cut offset limit (numbers_by order by (length rows)))

-- the numbers of the first so many of the rows, in order. All keys are evaluated, on every row
abbrev pub first_of : List Formula → List SortKey → ℕ → List Row → Result (List ℕ) AnswerFault
first_of keys order most rows = lists_of keys rows >>= λ by. Ok (take most (numbers_by order by (length rows)))

-- whether a value is a text
abbrev pub is_text : Meaning → Bool
is_text Null = false
is_text (Int n) = false
is_text (Text t) = true

-- the numbers of all rows, in order. All keys are evaluated, on every row
abbrev pub numbers_of : List Formula → List SortKey → List Row → Result (List ℕ) AnswerFault
numbers_of keys order rows = lists_of keys rows >>= λ by. Ok (numbers_by order by (length rows))

-- the items of the rows of these numbers. All items are evaluated, on every row
abbrev pub items_at : List Formula → List ℕ → List Row → Result (List Row) AnswerFault
items_at items numbers rows = lists_of items rows >>= λ listed. Ok (map (key_at listed) numbers)
