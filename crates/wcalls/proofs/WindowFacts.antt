-- Numbers in one order, by partition values and then by keys: each partition is a span of it.
use Rattle.std.proofs.Common.{◌≡◌, ℕ, zero, suc, ◌+◌, ◌-◌, ◌<◌, ◌≤◌, ◌==◌, Bool, true, false, cond, List}
use Rattle.std.proofs.Common.{[], ◌∷◌, length, map, filter, take, drop, get_or, drop-cons, Ordering, Less}
use Rattle.std.proofs.Common.{Equal, Greater, is_eq, true≢false, refl, sym, ap, ◌∙◌, arith}
use Rattle.std.specs.Prelude.{slice_range}
use Rattle.std.specs.List.{AllByRecursion, position_or_len}
use Rattle.std.specs.Cmp.{IsTotalOrder}
use Rattle.std.specs.Ordering.{on, then_cmp, ordering_then}
use Rattle.std.proofs.lemmas.Cmp.{on_total, then_total}
use Rattle.std.proofs.lemmas.List.{get_or-map, length-map, take_all}
use Rattle.wvalues.specs.Meaning.{Meaning}
use Rattle.wvalues.specs.Order.{keys_cmp}
use Rattle.wvalues.specs.OrderLaws.{keys_total}
use Rattle.wframe.specs.declared.frame.Span.{Span}
use Rattle.wframe.specs.Peers.{key_at, are_peers}
use Rattle.wframe.specs.Places.{places_from, places, is_in_span}
use Rattle.wframe.specs.Partitions.{IsPartition}
use Rattle.wframe.specs.Sorting.{sorted}
use Rattle.wcalls.specs.Windows.{Windowed, partition_rows}
use Rattle.wframe.proofs.SortFacts.{filter_sorted, tail_of}
use Rattle.wrows.proofs.RowFacts.{filter-map}
use Rattle.wrows.proofs.MoreSorting.{sorted_same}

-- the elements at some places
pub at_places : {X : Type 0} (d : X) (xs : List X) (a n : ℕ) → a + n ≤ length xs
    → map (λ j. get_or xs j d) (places_from a n) ≡ take n (drop a xs)
at_places d xs a zero h = refl
at_places d xs a (suc n) h =
    let l : a < length xs = omega arith in
    let s : suc a ≡ a + 1 = omega arith in
    ap (λ l. get_or xs a d ∷ l) (at_places d xs (a + 1) n (omega arith) ∙ ap (λ k. take n (drop k xs)) (sym s))
    ∙ sym (ap (take (suc n)) (drop-cons xs a d l))

pub all_places : {X : Type 0} (d : X) (xs : List X) → map (λ j. get_or xs j d) (places (length xs)) ≡ xs
all_places d xs = at_places d xs 0 (length xs) (omega arith) ∙ take_all (length xs) xs (omega arith)

-- what passes a test stands at the places that pass it
filter_at : {X : Type 0} (d : X) (p : X → Bool) (xs : List X)
    → filter p xs ≡ map (λ j. get_or xs j d) (filter (λ j. p (get_or xs j d)) (places (length xs)))
filter_at d p xs = sym (ap (filter p) (all_places d xs)) ∙ filter-map p (λ j. get_or xs j d) (places (length xs))

agree_from : (p q : ℕ → Bool) (a n : ℕ) → ((j : ℕ) → j < a + n → p j ≡ q j) → filter p (places_from a n) ≡ filter q (places_from a n)
agree_from p q a zero h = refl
agree_from p q a (suc n) h =
    ap (λ b. cond b (a ∷ filter p (places_from (a + 1) n)) (filter p (places_from (a + 1) n))) (h a (omega arith))
    ∙ ap (λ l. cond (q a) (a ∷ l) l) (agree_from p q (a + 1) n (λ j l. h j (omega arith)))

passed : {X : Type 0} (p : X → Bool) (xs : List X) → AllByRecursion (λ x. p x ≡ true) (filter p xs)
passed p [] = tt
passed p (x ∷ xs) = go (p x) refl (passed p xs)
  where
    go : (b : Bool) → p x ≡ b → AllByRecursion (λ x. p x ≡ true) (filter p xs)
        → AllByRecursion (λ x. p x ≡ true) (cond b (x ∷ filter p xs) (filter p xs))
    go true e more = (e, more)
    go false e more = more

is_equal : (o : Ordering) → is_eq o ≡ true → o ≡ Equal
is_equal Less h = absurd (true≢false (sym h))
is_equal Equal h = refl
is_equal Greater h = absurd (true≢false (sym h))

-- by partition values, and then by keys
abbrev pub whole_cmp : Windowed → ℕ → ℕ → Ordering
whole_cmp w = then_cmp (on (key_at w.values) (keys_cmp w.value_order)) (on (key_at w.keys) (keys_cmp w.order))

pub whole_total : (w : Windowed) → IsTotalOrder (whole_cmp w)
whole_total w = then_total (on_total (key_at w.values) (keys_total w.value_order)) (on_total (key_at w.keys) (keys_total w.order))

module _ (w : Windowed) (order : List ℕ) (s : Span)
    (is_sorted : order ≡ sorted (whole_cmp w) (places (length w.values)))
    (part : IsPartition (keys_cmp w.value_order) (map (key_at w.values) order) s) where
  abbrev cv : List Meaning → List Meaning → Ordering
  cv = keys_cmp w.value_order

  abbrev total : IsTotalOrder (keys_cmp w.value_order)
  total = keys_total w.value_order

  abbrev row : ℕ → ℕ
  row j = get_or order j 0

  -- whether a row agrees with the first of the span
  abbrev in_part : ℕ → Bool
  in_part k = is_eq (cv (key_at w.values (row s.from)) (key_at w.values k))

  listed : (j : ℕ) → j < length order → key_at (map (key_at w.values) order) j ≡ key_at w.values (row j)
  listed j h = get_or-map (key_at w.values) order j 0 [] h

  long : length (map (key_at w.values) order) ≡ length order
  long = length-map order (key_at w.values)

  within : s.to ≤ length order
  within = omega (arith, part.within, long)

  peers_are : (j : ℕ) → j < length order → are_peers cv (map (key_at w.values) order) s.from j ≡ in_part (row j)
  peers_are j h =
      let first : s.from < length order = omega (arith, part.some, within) in
      ap (λ k. is_eq (cv k (key_at (map (key_at w.values) order) j))) (listed s.from first)
      ∙ ap (λ k. is_eq (cv (key_at w.values (row s.from)) k)) (listed j h)

  -- the span has the rows that agree with its first
  span_is : slice_range order s.from s.to ≡ filter in_part order
  span_is =
      let fits : s.from + (s.to - s.from) ≤ length order = omega (arith, part.some, within) in
      sym (at_places 0 order s.from (s.to - s.from) fits)
      ∙ ap (map row) (part.filtered ∙ ap (λ n. filter (are_peers cv (map (key_at w.values) order) s.from) (places n)) long
      ∙ agree_from _ (λ j. in_part (row j)) 0 (length order) (λ j h. peers_are j (omega arith)))
      ∙ sym (filter_at 0 in_part order)

  by_keys : (x y : ℕ) → in_part x ≡ true → in_part y ≡ true → whole_cmp w x y ≡ on (key_at w.keys) (keys_cmp w.order) x y
  by_keys x y h k =
      let e : cv (key_at w.values x) (key_at w.values y) ≡ Equal
      = sym (total.congr (key_at w.values (row s.from)) (key_at w.values x) (key_at w.values y) (is_equal _ h)) ∙ is_equal _ k in
      ap (λ o. ordering_then o (on (key_at w.keys) (keys_cmp w.order) x y)) e

  -- the rows of the span are the partition of each of them, in its order
  pub span_rows : (i : ℕ) → is_in_span s i ≡ true → i < length order → slice_range order s.from s.to ≡ partition_rows w (row i)
  span_rows i h l =
      let here : in_part (row i) ≡ true = sym (peers_are i l) ∙ sym (part.each i (omega (arith, l, long))) ∙ h in
      let tied : cv (key_at w.values (row s.from)) (key_at w.values (row i)) ≡ Equal = is_equal _ here in
      span_is
      ∙ ap (filter in_part) is_sorted
      ∙ filter_sorted (whole_cmp w) (whole_total w) in_part (places (length w.values))
      ∙ sorted_same (λ x. in_part x ≡ true) (whole_cmp w) (on (key_at w.keys) (keys_cmp w.order)) by_keys
      (filter in_part (places (length w.values))) (passed in_part (places (length w.values)))
      ∙ ap (sorted (on (key_at w.keys) (keys_cmp w.order)))
      (agree_from in_part (are_peers cv w.values (row i)) 0 (length w.values)
      (λ j k. ap is_eq (total.congr (key_at w.values (row s.from)) (key_at w.values (row i)) (key_at w.values j) tied)))

-- the one place of an element that a list has once
none_there : (r : ℕ) (xs : List ℕ) → filter (λ k. k == r) xs ≡ [] → (j : ℕ) → j < length xs → (get_or xs j 0 == r) ≡ false
none_there r [] e j h = absurd (omega arith)
none_there r (x ∷ xs) e j h = go (x == r) refl e j h (none_there r xs)
  where
    go : (b : Bool) → (x == r) ≡ b → cond b (x ∷ filter (λ k. k == r) xs) (filter (λ k. k == r) xs) ≡ [] → (j : ℕ) → j < suc (length xs)
        → (filter (λ k. k == r) xs ≡ [] → (j : ℕ) → j < length xs → (get_or xs j 0 == r) ≡ false) → (get_or (x ∷ xs) j 0 == r) ≡ false
    go true e f j h more = absurd (cc)
    go false e f zero h more = e
    go false e f (suc j) h more = more f j (omega arith)

pub place_is : (r : ℕ) (xs : List ℕ) → filter (λ k. k == r) xs ≡ r ∷ [] → (j : ℕ) → j < length xs
    → (get_or xs j 0 == r) ≡ true → position_or_len (λ k. k == r) xs ≡ j
place_is r [] e j h here = absurd (omega arith)
place_is r (x ∷ xs) e j h here = go (x == r) refl e j h here (place_is r xs)
  where
    go : (b : Bool) → (x == r) ≡ b → cond b (x ∷ filter (λ k. k == r) xs) (filter (λ k. k == r) xs) ≡ r ∷ [] → (j : ℕ)
        → j < suc (length xs) → (get_or (x ∷ xs) j 0 == r) ≡ true
        → (filter (λ k. k == r) xs ≡ r ∷ [] → (j : ℕ) → j < length xs → (get_or xs j 0 == r) ≡ true → position_or_len (λ k. k == r) xs ≡ j)
        → position_or_len (λ k. k == r) (x ∷ xs) ≡ j
    go true e f zero h here more = rw e refl
    go true e f (suc j) h here more =
        let rest : filter (λ k. k == r) xs ≡ [] = ap tail_of f in
        absurd (true≢false (sym here ∙ none_there r xs rest j (omega arith)))
    go false e f zero h here more = absurd (true≢false (sym here ∙ e))
    go false e f (suc j) h here more =
        let m : position_or_len (λ k. k == r) xs ≡ j = more f j (omega arith) here in
        rw e (omega (arith, m))
