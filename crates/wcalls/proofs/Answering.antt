-- What a call answers in all partitions of a window, and lists that have each number once.
use Rattle.std.specs.Prelude.{◌≡◌, ℕ, ◌<◌, List, map, filter, length, ◌==◌, ◌∷◌, [], Option, unwrap_or, slice_range}
use Rattle.std.specs.List.{flat_map}
use Rattle.wvalues.specs.Meaning.{Meaning, Null}
use Rattle.wframe.specs.Places.{places}
use Rattle.wframe.specs.Partition.{Partition, Partitioned, partition_of}
use Rattle.wcalls.specs.Arranged.{Answer}

-- its answers for the rows of a partition, in their order
abbrev pub partition_answers : Answer → Partition → List ℕ → List (Option Meaning)
partition_answers answer p rows = map (answer p rows) (places (length p.keys))

-- its answers for all rows of a window, one partition after another
abbrev pub window_answers : Answer → Partitioned → List ℕ → List (Option Meaning)
window_answers answer all rows = flat_map (λ s. partition_answers answer (partition_of all s) (slice_range rows s.from s.to)) all.spans

-- the values that answers have
abbrev pub answer_values : List (Option Meaning) → List Meaning
answer_values = map (λ r. unwrap_or r Null)

-- each number below n stands in a list once
abbrev pub HasEachOnce : ℕ → List ℕ → Type 0
HasEachOnce n rows = (i : ℕ) → i < n → filter (λ k. k == i) rows ≡ i ∷ []
