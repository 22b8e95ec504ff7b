-- Groups of peers, numbered one after another.
use Rattle.std.specs.Prelude.{◌≡◌, ℕ, ◌+◌, ◌<◌, ◌≤◌, true, false, List, ◌∷◌, length, slice_index}
use Rattle.std.specs.declared.cmp.Ordering.{Ordering}
use Rattle.wvalues.specs.Meaning.{Meaning}
use Rattle.wframe.specs.declared.frame.Span.{Span}
use Rattle.wframe.specs.Peers.{is_before, is_upto}
use Rattle.wframe.specs.Cuts.{CutsFrom}

-- where the groups begin, which end there: each where the one before ends, and at last the place behind them all
abbrev pub begins_of : List ℕ → List ℕ
begins_of ends = 0 ∷ ends

-- from `first` on, the number of the group of each row up to one, and for each number where the group ends; the first
-- group is the one of number `low`
pub record AreGroups (cmp : List Meaning → List Meaning → Ordering) (keys : List (List Meaning)) (first low upto : ℕ)
    (numbers ends : List ℕ) : Type 0 where
  pub begin : (i : ℕ) → i < upto → CutsFrom first (length keys) (is_before cmp keys i)
      (slice_index (begins_of ends) (slice_index numbers (first + i)))
  pub end : (i : ℕ) → i < upto → CutsFrom first (length keys) (is_upto cmp keys i) (slice_index ends (slice_index numbers (first + i)))
  pub within : (i : ℕ) → i < upto → slice_index ends (slice_index numbers (first + i)) ≤ first + upto
  pub known : (i : ℕ) → i < upto → slice_index numbers (first + i) < length ends
  pub begun : 0 < upto → slice_index numbers first ≡ low
  pub none : upto ≡ 0 → length ends ≡ low
  pub same : (i j : ℕ) → i ≤ j → i < upto → first + j < slice_index ends (slice_index numbers (first + i))
      → slice_index numbers (first + j) ≡ slice_index numbers (first + i)
  pub next : (i : ℕ) → i < upto → slice_index ends (slice_index numbers (first + i)) < first + upto
      → slice_index numbers (slice_index ends (slice_index numbers (first + i))) ≡ slice_index numbers (first + i) + 1
  pub done : (i : ℕ) → i < upto → slice_index ends (slice_index numbers (first + i)) ≡ first + upto
      → slice_index numbers (first + i) + 1 ≡ length ends
  pub long : first + upto ≤ length numbers

-- the rows that agree with a row, which is the first of them, end behind the span's first place and at its end at the latest
pub record HoldsEnd (cmp : List Meaning → List Meaning → Ordering) (keys : List (List Meaning)) (first : ℕ) (s : Span) : Type 0 where
  pub begun : first ≤ s.from
  pub some : s.from < s.to
  pub within : s.to ≤ length keys
  pub passed : is_upto cmp keys first s.from ≡ true
  pub others : s.to < length keys → is_upto cmp keys first s.to ≡ false
