-- Rows by a test of whether two are the same, in the order of first sight, and rows of cells that are the same.
use Rattle.std.specs.Prelude.{◌≡◌, ℕ, ◌*◌, ◌<◌, ◌≤◌, Bool, true, not, List, map, filter, take, drop}
use Rattle.std.specs.List.{list_any, position_or_len}
use Rattle.std.specs.Cmp.Lexicographic.{pointwise}
use Rattle.wvalues.specs.declared.value.Value.{Value}
use Rattle.wvalues.specs.Meaning.{Meaning, meaning}
use Rattle.wvalues.specs.Sameness.{same_meaning}
use Rattle.wframe.specs.Places.{places}
use Rattle.wrows.specs.Columns.{Row}
use Rattle.wgroup.specs.Grouping.{SetColumns, set_value}

-- the rows, of n, with which no earlier row is the same
abbrev pub first_of : (ℕ → ℕ → Bool) → ℕ → List ℕ
first_of same n = filter (λ i. not (list_any (same i) (places i))) (places n)

-- the first row, of n, that is the same as this one
pub record IsFirst (same : ℕ → ℕ → Bool) (n row first : ℕ) : Type 0 where
  pub alike : same row first ≡ true
  pub least : (i : ℕ) → i < n → same row i ≡ true → first ≤ i

-- the numbers of the rows' groups: the place of a row's first row among all
abbrev pub group_numbers : (ℕ → ℕ → Bool) → ℕ → List ℕ
group_numbers same n = map (λ i. position_or_len (same i) (first_of same n)) (places n)

-- the first rows, of n, and the number of each row's group
pub record IsSight (same : ℕ → ℕ → Bool) (n : ℕ) (firsts numbers : List ℕ) : Type 0 where
  pub are_firsts : firsts ≡ first_of same n
  pub are_numbers : numbers ≡ group_numbers same n

-- rows that are the same in one way are so in the other
abbrev pub IsCoarser : (ℕ → ℕ → Bool) → (ℕ → ℕ → Bool) → Type 0
IsCoarser fine coarse = (i j : ℕ) → fine i j ≡ true → coarse i j ≡ true

-- the cells of a row of this width
abbrev pub slice_at : ℕ → List Value → ℕ → List Value
slice_at width cells row = take width (drop (row * width) cells)

-- whether two lists of cells say the same, and two rows of cells
abbrev pub same_cells : List Value → List Value → Bool
same_cells = pointwise (λ a b. same_meaning (meaning a) (meaning b))

abbrev pub same_row : ℕ → List Value → ℕ → ℕ → Bool
same_row width cells i j = same_cells (slice_at width cells i) (slice_at width cells j)

-- a row's values in the columns of a set, null behind its end
abbrev pub key_in : SetColumns → Row → List Meaning
key_in columns row = map (set_value row) columns
