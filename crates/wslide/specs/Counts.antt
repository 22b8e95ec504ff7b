-- Counting rows.
use Rattle.std.specs.Prelude.{ℕ, ◌+◌, ◌%◌, ◌^◌, ◌<◌, List, Bool, Option, Some, None, if◌then◌else◌}
use Rattle.wvalues.specs.Meaning.{Meaning}
use Rattle.wslide.specs.Aggregates.{passes, fed, is_value}

-- a number of 64 bits
abbrev pub IsCount : ℕ → Type 0
IsCount n = n < 2 ^ 64

-- the sum, wrapped at 64 bits
abbrev pub counts_joined : ℕ → ℕ → ℕ
counts_joined m n = (m + n) % 2 ^ 64

-- whether a row counts: where its filter is true, and its value is not null if there is a column
abbrev pub counts : Option (List Meaning) → Option (List Bool) → ℕ → Bool
counts None filter row = passes filter row
counts (Some values) filter row = is_value (fed values filter row)

-- the part of a row
abbrev pub count_at : Option (List Meaning) → Option (List Bool) → ℕ → ℕ
count_at values filter row = if counts values filter row then 1 else 0
