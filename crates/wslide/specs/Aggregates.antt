-- What the aggregates of a list of rows are (ISO/IEC 9075-2, <aggregate function>, <filter clause>).
use Rattle.std.specs.Prelude.{◌≡◌, ℕ, ℤ, pos, ◌+ℤ◌, Bool, true, false, List, [], ◌∷◌, ◌++◌}
use Rattle.std.specs.Prelude.{map, Option, Some, None, slice_index_or, if◌then◌else◌, All}
use Rattle.std.specs.Borrow.{Bor}
use Rattle.std.specs.List.{count_by, list_any}
use Rattle.std.specs.Ordering.{is_lt, is_gt}
use Rattle.std.specs.declared.cmp.Ordering.{Ordering}
use Rattle.wvalues.specs.Meaning.{Meaning, Null, Int, Text}
use Rattle.wvalues.specs.Order.{key_cmp}
use Rattle.wvalues.specs.Whole.{IsWhole}

-- whether a row's filter is true, or there is none
abbrev pub passes : Option (List Bool) → ℕ → Bool
passes None row = true
passes (Some tests) row = slice_index_or tests row false

-- what a row feeds an aggregate: its value where its filter is true or there is none, else null
abbrev pub fed : List Meaning → Option (List Bool) → ℕ → Meaning
fed values filter row = if passes filter row then slice_index_or values row Null else Null

-- whether it is no null
abbrev pub is_value : Meaning → Bool
is_value Null = false
is_value (Int x) = true
is_value (Text x) = true

-- what a value adds to a sum
abbrev pub number_of : Meaning → ℤ
number_of Null = pos 0
number_of (Int x) = x
number_of (Text x) = pos 0

-- a value is in its range
abbrev pub IsInRange : Meaning → Type 0
IsInRange Null = Unit {0}
IsInRange (Int x) = IsWhole x
IsInRange (Text x) = Unit {0}

-- the number of rows whose filter is true
abbrev pub count_of_rows : Option (List Bool) → List ℕ → ℕ
count_of_rows filter rows = count_by (passes filter) rows

-- the number of rows that feed a value
abbrev pub count_of : (ℕ → Meaning) → List ℕ → ℕ
count_of feed rows = count_by (λ row. is_value (feed row)) rows

-- the sum of what is fed, over the unbounded whole numbers
abbrev pub sum_of : (ℕ → Meaning) → List ℕ → ℤ
sum_of feed [] = pos 0
sum_of feed (row ∷ rows) = number_of (feed row) +ℤ sum_of feed rows

-- the sum of what is fed; none where no value is fed
abbrev pub sum_or_none : (ℕ → Meaning) → List ℕ → Option ℤ
sum_or_none feed rows = if list_any (λ row. is_value (feed row)) rows then Some (sum_of feed rows) else None

-- the tests of a filter, if there is one
abbrev pub tests : Option (Bor (List Bool)) → Option (List Bool)
tests None = None
tests (Some filter) = Some filter.now

-- a column's values, and a filter's tests, at the numbers of some rows
abbrev pub picked_values : List Meaning → List ℕ → List Meaning
picked_values values rows = map (λ row. slice_index_or values row Null) rows

abbrev pub picked_tests : Option (List Bool) → List ℕ → Option (List Bool)
picked_tests None rows = None
picked_tests (Some tests) rows = Some (map (λ row. slice_index_or tests row false) rows)

-- numbers by size and texts by bytes, or the other way round
abbrev pub by_value_in : Bool → Meaning → Meaning → Ordering
by_value_in descending = key_cmp (record { col = 0; desc = descending; nulls_first = false })

abbrev pub by_value : Meaning → Meaning → Ordering
by_value = by_value_in false

abbrev pub by_value_descending : Meaning → Meaning → Ordering
by_value_descending = by_value_in true

-- the list is cut at its least row, all of whose left rows that feed a value feed a greater one, and no right row a smaller one
pub record IsLeastBetween (order : Meaning → Meaning → Ordering) (feed : ℕ → Meaning) (rows left : List ℕ) (least : ℕ)
    (right : List ℕ) : Type 0 where
  pub cut : rows ≡ left ++ least ∷ right
  pub feeds : is_value (feed least) ≡ true
  pub before : All (λ row. is_value (feed row) ≡ true → is_lt (order (feed least) (feed row)) ≡ true) left
  pub after : All (λ row. is_value (feed row) ≡ true → is_gt (order (feed least) (feed row)) ≡ false) right

-- the row of a list that feeds the least value in an order, the leftmost of equal ones; none where no row feeds a value
abbrev pub IsLeast : (Meaning → Meaning → Ordering) → (ℕ → Meaning) → List ℕ → Option ℕ → Type 0
IsLeast order feed rows None = All (λ row. is_value (feed row) ≡ false) rows
IsLeast order feed rows (Some least) = (left : List ℕ) × (right : List ℕ) × IsLeastBetween order feed rows left least right
