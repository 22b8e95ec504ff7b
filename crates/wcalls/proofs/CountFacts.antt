-- No count of a row is more than one more than the rows of its partition.
use Rattle.std.proofs.Common.{ℕ, Bool, cond, true, false, ◌+◌, ◌≤◌, List, [], ◌∷◌, length, filter, is_lt, arith}
use Rattle.wframe.specs.Partition.{Partition}
use Rattle.wframe.specs.Peers.{key_at, smaller_keys}
use Rattle.wframe.specs.Places.{places}
use Rattle.wvalues.specs.Order.{keys_cmp}
use Rattle.wrows.proofs.RowFacts.{length-places}
use Rattle.wplaces.specs.Ranks.{dense_rank_of, rank_of, row_number_of}
use Rattle.wplaces.proofs.DenseFacts.{distinct_short}
use Rattle.std.specs.Prelude.{nat_lt}

pub filter_short : {X : Type 0} (p : X → Bool) (xs : List X) → length (filter p xs) ≤ length xs
filter_short p [] = omega arith
filter_short p (x ∷ xs) =
    let more : length (filter p xs) ≤ length xs = filter_short p xs in
    elim (p x) as (λ b. length (cond b (x ∷ filter p xs) (filter p xs)) ≤ length (x ∷ xs)) [ true ↦ omega arith | false ↦ omega arith ]

pub row_number_few : (p : Partition) (i : ℕ) → row_number_of p i ≤ length p.keys + 1
row_number_few p i = omega (arith, filter_short (λ j. nat_lt j i) (places (length p.keys)), length-places 0 (length p.keys))

smaller_few : (p : Partition) (i : ℕ) → length (smaller_keys (keys_cmp p.order) p.keys i) ≤ length p.keys
smaller_few p i = filter_short (λ key. is_lt (keys_cmp p.order key (key_at p.keys i))) p.keys

pub rank_few : (p : Partition) (i : ℕ) → rank_of p i ≤ length p.keys + 1
rank_few p i = omega (arith, smaller_few p i)

pub dense_rank_few : (p : Partition) (i : ℕ) → dense_rank_of p i ≤ length p.keys + 1
dense_rank_few p i = omega (
  arith,
  smaller_few p i,
  distinct_short (keys_cmp p.order) (smaller_keys (keys_cmp p.order) p.keys i),
)
