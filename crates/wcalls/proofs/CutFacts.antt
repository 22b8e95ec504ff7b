-- Counts and offsets that no partition reaches all answer alike.
use Rattle.std.proofs.Common.{◌≡◌, ℕ, zero, suc, ◌+◌, ◌-◌, ◌/◌, ◌%◌, ◌<◌, ◌≤◌, ◌^◌, nat_le, nat_lt, Bool, true, false, not, cond}
use Rattle.std.proofs.Common.{List, [], ◌∷◌, ◌++◌, replicate, length, filter, None, refl, sym, ap, ◌∙◌, arith, inl, inr, ◌⊎◌}
use Rattle.std.proofs.Math.Nat.{div-eq_of_lt, mod-eq_of_lt}
use Rattle.std.proofs.lemmas.Bool.{cases_lt}
use Rattle.std.proofs.lemmas.Bool.Decides.{nat_tests}
use Rattle.std.specs.List.{position_or_len, slice_get}
use Rattle.wframe.specs.Partition.{Partition}
use Rattle.wframe.specs.Places.{is_in_span, places}
use Rattle.wframe.specs.Frame.{frame_rows, is_kept}
use Rattle.wplaces.specs.Tile.{pieces, tile_of}
use Rattle.wplaces.specs.RowPlaces.{lag_place, lead_place, nth_place}
use Rattle.wrows.proofs.RowFacts.{length-places}

-- whether a row stands in pieces of one row each
own_piece : (from k : ℕ) (sizes : List ℕ) (i : ℕ) → from ≤ i → i < from + k
    → position_or_len (λ piece. is_in_span piece i) (pieces from (replicate k 1 ++ sizes)) ≡ i - from
own_piece from zero sizes i l h = absurd (omega arith)
own_piece from (suc k) sizes i l h = go (cases_lt from i) (own_piece (from + 1) k sizes i)
  where
    rest : ℕ
    rest = position_or_len (λ piece. is_in_span piece i) (pieces (from + 1) (replicate k 1 ++ sizes))

    go : (from < i) ⊎ (i ≤ from) → (from + 1 ≤ i → i < from + 1 + k → rest ≡ i - (from + 1))
        → position_or_len (λ piece. is_in_span piece i) (pieces from (replicate (suc k) 1 ++ sizes)) ≡ i - from
    go (inl m) more =
        let out : is_in_span (record { from = from; to = from + 1 }) i ≡ false = grind (arith, nat_tests) in
        let r : rest ≡ i - (from + 1) = more (omega arith) (omega arith) in
        ap (λ b. cond (not b) (1 + rest) 0) out ∙ omega (arith, r, m)
    go (inr m) more =
        let here : is_in_span (record { from = from; to = from + 1 }) i ≡ true = grind (arith, nat_tests) in
        ap (λ b. cond (not b) (1 + rest) 0) here ∙ omega (arith, m, l)

-- where there are more tiles than rows, each row has its own
own_tile : (rows tiles i : ℕ) → i < rows → rows < tiles → tile_of rows tiles i ≡ i + 1
own_tile rows tiles i h few =
    let m : rows % tiles ≡ rows = mod-eq_of_lt few in
    let q : rows / tiles ≡ 0 = div-eq_of_lt few in
    let z : i - 0 ≡ i = omega arith in
    ap (λ k. position_or_len (λ piece. is_in_span piece i)
    (pieces 0 (replicate k (rows / tiles + 1) ++ replicate (tiles - k) (rows / tiles))) + 1) m
    ∙ ap (λ size. position_or_len (λ piece. is_in_span piece i)
    (pieces 0 (replicate rows (size + 1) ++ replicate (tiles - rows) size)) + 1) q
    ∙ ap (λ n. n + 1) (own_piece 0 rows (replicate (tiles - rows) 0) i (omega arith) (omega arith) ∙ z)

get_past : {X : Type 0} (xs : List X) (k : ℕ) → length xs ≤ k → slice_get xs k ≡ None
get_past [] k h = refl
get_past (x ∷ xs) zero h = absurd (omega arith)
get_past (x ∷ xs) (suc k) h = get_past xs k (omega arith)

filter_shorter : {X : Type 0} (p : X → Bool) (xs : List X) → length (filter p xs) ≤ length xs
filter_shorter p [] = omega arith
filter_shorter p (x ∷ xs) =
    let more : length (filter p xs) ≤ length xs = filter_shorter p xs in
    elim (p x) as (λ b. length (cond b (x ∷ filter p xs) (filter p xs)) ≤ suc (length xs)) [
      | true ↦ omega (arith, more)
      | false ↦ omega (arith, more)
    ]

frame_shorter : (p : Partition) (i : ℕ) → length (frame_rows p i) ≤ length p.keys
frame_shorter p i = omega (arith, filter_shorter (is_kept p i) (places (length p.keys)), length-places 0 (length p.keys))

module _ (rows n m : ℕ) (few : rows < 2 ^ 31) (small : n < 2 ^ 31 → m ≡ n) (large : 2 ^ 31 ≤ n → m ≡ 2 ^ 31) where
  pub tile_alike : (i : ℕ) → i < rows → tile_of rows m i ≡ tile_of rows n i
  tile_alike i h = go (cases_lt n (2 ^ 31))
    where
      go : (n < 2 ^ 31) ⊎ (2 ^ 31 ≤ n) → tile_of rows m i ≡ tile_of rows n i
      go (inl l) = ap (λ k. tile_of rows k i) (small l)
      go (inr l) = let e : m ≡ 2 ^ 31 = large l in own_tile rows m i h (omega (arith, e, few))
          ∙ sym (own_tile rows n i h (omega (arith, l, few)))

  pub lag_alike : (i : ℕ) → i < rows → lag_place m i ≡ lag_place n i
  lag_alike i h = go (cases_lt n (2 ^ 31))
    where
      go : (n < 2 ^ 31) ⊎ (2 ^ 31 ≤ n) → lag_place m i ≡ lag_place n i
      go (inl l) = ap (λ k. lag_place k i) (small l)
      go (inr l) =
          let e : m ≡ 2 ^ 31 = large l in
          let past : i < m = omega (arith, e, h, few) in
          let beyond : i < n = omega (arith, l, h, few) in
          let a : nat_le m i ≡ false = grind (arith, nat_tests) in
          let b : nat_le n i ≡ false = grind (arith, nat_tests) in
          rw (a, b) refl

  pub lead_alike : (i : ℕ) → lead_place rows m i ≡ lead_place rows n i
  lead_alike i = go (cases_lt n (2 ^ 31))
    where
      go : (n < 2 ^ 31) ⊎ (2 ^ 31 ≤ n) → lead_place rows m i ≡ lead_place rows n i
      go (inl l) = ap (λ k. lead_place rows k i) (small l)
      go (inr l) =
          let e : m ≡ 2 ^ 31 = large l in
          let past : rows ≤ i + m = omega (arith, e, few) in
          let beyond : rows ≤ i + n = omega (arith, l, few) in
          let a : nat_lt (i + m) rows ≡ false = grind (arith, nat_tests) in
          let b : nat_lt (i + n) rows ≡ false = grind (arith, nat_tests) in
          rw (a, b) refl

module _ (p : Partition) (n m : ℕ) (few : length p.keys < 2 ^ 31) (small : n < 2 ^ 31 → m ≡ n) (large : 2 ^ 31 ≤ n → m ≡ 2 ^ 31) where
  pub nth_alike : (i : ℕ) → nth_place p m i ≡ nth_place p n i
  nth_alike i = go (cases_lt n (2 ^ 31))
    where
      go : (n < 2 ^ 31) ⊎ (2 ^ 31 ≤ n) → nth_place p m i ≡ nth_place p n i
      go (inl l) = ap (λ k. nth_place p k i) (small l)
      go (inr l) =
          let e : m ≡ 2 ^ 31 = large l in
          let short : length (frame_rows p i) ≤ length p.keys = frame_shorter p i in
          get_past (frame_rows p i) (m - 1) (omega (arith, e, few, short))
          ∙ sym (get_past (frame_rows p i) (n - 1) (omega (arith, l, few, short)))
