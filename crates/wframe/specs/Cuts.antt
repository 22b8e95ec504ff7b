-- Tests of places that pass a front of a partition, for each of its rows.
use Rattle.std.specs.Prelude.{◌≡◌, ℕ, ◌+◌, ◌-◌, ◌<◌, ◌≤◌, Bool, true, false, List, length, slice_index}

-- a test of a row and a place: for each row it passes a front of the n places, for a later row at least as many
pub record IsCut (n : ℕ) (passes : ℕ → ℕ → Bool) : Type 0 where
  pub down : (i j k : ℕ) → i < n → j ≤ k → k < n → passes i k ≡ true → passes i j ≡ true
  pub rises : (i k j : ℕ) → i ≤ k → k < n → j < n → passes i j ≡ true → passes k j ≡ true

-- of n places those below c pass, and no other
pub record CutsAt (n : ℕ) (passes : ℕ → Bool) (c : ℕ) : Type 0 where
  pub within : c ≤ n
  pub passed : (j : ℕ) → j < c → passes j ≡ true
  pub others : (j : ℕ) → c ≤ j → j < n → passes j ≡ false

-- the same of n places that begin at `first`
pub record CutsFrom (first n : ℕ) (passes : ℕ → Bool) (c : ℕ) : Type 0 where
  pub from : first ≤ c
  pub at : CutsAt n passes (c - first)

-- a list that begins with another one
pub record BeginsWith (old new : List ℕ) : Type 0 where
  pub same : (i : ℕ) → i < length old → slice_index new i ≡ slice_index old i
  pub long : length old ≤ length new

-- lists that have, from `first` on, a number for each of n rows, and at each number the end of the places that pass
pub record HasNumberedCuts (first n : ℕ) (passes : ℕ → ℕ → Bool) (numbers cuts : List ℕ) : Type 0 where
  pub each : (i : ℕ) → i < n → CutsFrom first n (passes i) (slice_index cuts (slice_index numbers (first + i)))
  pub known : (i : ℕ) → i < n → slice_index numbers (first + i) < length cuts
  pub long : first + n ≤ length numbers
