-- The place of the least value, the leftmost of equal ones.
use Rattle.std.specs.Prelude.{ℕ, ◌<◌, List, Bool, Option, Some, None, IfSome, length, slice_index_or, if◌then◌else◌}
use Rattle.std.specs.Ordering.{is_lt}
use Rattle.std.specs.declared.cmp.Ordering.{Ordering}
use Rattle.wvalues.specs.Meaning.{Meaning, Null}
use Rattle.wslide.specs.Aggregates.{fed, is_value}

-- a place of the column, or none
abbrev pub IsPlace : List Meaning → Option ℕ → Type 0
IsPlace values place = IfSome place (λ i. i < length values)

-- the value at a place
abbrev pub value_at : List Meaning → ℕ → Meaning
value_at values i = slice_index_or values i Null

-- whether the right one of two places has the smaller value
abbrev pub is_less_right : (Meaning → Meaning → Ordering) → List Meaning → ℕ → ℕ → Bool
is_less_right order values left right = is_lt (order (value_at values right) (value_at values left))

-- the right place if it has the smaller value, else the left one
abbrev pub leasts_joined : (Meaning → Meaning → Ordering) → List Meaning → Option ℕ → Option ℕ → Option ℕ
leasts_joined order values None right = right
leasts_joined order values (Some i) None = Some i
leasts_joined order values (Some i) (Some j) = if is_less_right order values i j then Some j else Some i

-- the row's place, if it feeds a value
abbrev pub place_at : List Meaning → Option (List Bool) → ℕ → Option ℕ
place_at values filter row = if is_value (fed values filter row) then Some row else None
