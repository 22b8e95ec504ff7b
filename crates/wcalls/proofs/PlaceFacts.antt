-- The places of rows in their partitions, and what the order of the rows gives those who build frames.
use Rattle.std.proofs.Common.{◌≡◌, ◌≢◌, ℕ, zero, suc, ◌+◌, ◌-◌, ◌<◌, ◌≤◌, ◌==◌, Bool, true, false, cond}
use Rattle.std.proofs.Common.{List, [], ◌∷◌, length, map, filter, drop, get_or, Ordering, Less, Equal}
use Rattle.std.proofs.Common.{Greater, is_gt, is_eq, true≢false, refl, sym, ap, ◌∙◌, arith, subst}
use Rattle.std.specs.Prelude.{slice_range}
use Rattle.std.specs.List.{AllByRecursion}
use Rattle.std.specs.Cmp.{IsTotalOrder}
use Rattle.std.specs.Ordering.{on, ordering_then}
use Rattle.std.proofs.lemmas.Bool.Decides.{nat_tests}
use Rattle.std.proofs.lemmas.Cmp.{on_total, tied_itself}
use Rattle.std.proofs.lemmas.List.{get_or-map, get_or-take, get_or-drop, length-map}
use Rattle.wvalues.specs.declared.key.SortKey.{SortKey}
use Rattle.wvalues.specs.Meaning.{Meaning}
use Rattle.wvalues.specs.Order.{keys_cmp}
use Rattle.wvalues.specs.OrderLaws.{keys_total}
use Rattle.wframe.specs.Peers.{key_at, are_peers, AreOrdered, AreOrderedWithin}
use Rattle.wframe.specs.Places.{places_from, places}
use Rattle.wframe.specs.Sorting.{sorted}
use Rattle.wcalls.specs.Windows.{Windowed, partition_rows, place_at}
use Rattle.wframe.proofs.SortFacts.{IsUp, filter_sorted, up_sorted}
use Rattle.wcalls.proofs.WindowFacts.{whole_cmp, whole_total, place_is}

none_from : (i a n : ℕ) → i < a → filter (λ k. k == i) (places_from a n) ≡ []
none_from i a zero h = refl
none_from i a (suc n) h = let e : (a == i) ≡ false = grind (arith, nat_tests) in rw e (none_from i (a + 1) n (omega arith))

-- each number stands once among the places
pub once_from : (i a n : ℕ) → a ≤ i → i < a + n → filter (λ k. k == i) (places_from a n) ≡ i ∷ []
once_from i a zero l h = absurd (omega arith)
once_from i a (suc n) l h = go (a == i) refl (once_from i (a + 1) n)
  where
    go : (b : Bool) → (a == i) ≡ b → (a + 1 ≤ i → i < a + 1 + n → filter (λ k. k == i) (places_from (a + 1) n) ≡ i ∷ [])
        → cond b (a ∷ filter (λ k. k == i) (places_from (a + 1) n)) (filter (λ k. k == i) (places_from (a + 1) n)) ≡ i ∷ []
    go true e more =
        let same : a ≡ i = grind (arith, nat_tests) in
        ap (λ l. a ∷ l) (none_from i (a + 1) n (omega arith)) ∙ ap (λ k. k ∷ []) same
    go false e more = let other : a ≢ i = grind (arith, nat_tests) in more (omega arith) (omega arith)

filters_swap : {X : Type 0} (p q : X → Bool) (xs : List X) → filter p (filter q xs) ≡ filter q (filter p xs)
filters_swap p q [] = refl
filters_swap p q (x ∷ xs) = go (p x) (q x) refl refl (filters_swap p q xs)
  where
    go : (a b : Bool) → p x ≡ a → q x ≡ b → filter p (filter q xs) ≡ filter q (filter p xs)
        → filter p (cond b (x ∷ filter q xs) (filter q xs)) ≡ filter q (cond a (x ∷ filter p xs) (filter p xs))
    go true true e f more = rw (e, f) (ap (λ l. x ∷ l) more)
    go true false e f more = rw f more
    go false true e f more = rw e more
    go false false e f more = more

-- a row stands once in its partition
pub once_in_partition : (w : Windowed) (r : ℕ) → r < length w.values → filter (λ k. k == r) (partition_rows w r) ≡ r ∷ []
once_in_partition w r h =
    let cmp : ℕ → ℕ → Ordering = on (key_at w.keys) (keys_cmp w.order) in
    let p : ℕ → Bool = are_peers (keys_cmp w.value_order) w.values r in
    let itself : p r ≡ true = ap is_eq (tied_itself (keys_total w.value_order) (key_at w.values r)) in
    filter_sorted cmp (on_total (key_at w.keys) (keys_total w.order)) (λ k. k == r) (filter p (places (length w.values)))
    ∙ ap (sorted cmp) (filters_swap (λ k. k == r) p (places (length w.values))
    ∙ ap (filter p) (once_from r 0 (length w.values) (omega arith) (omega arith)) ∙ ap (λ b. cond b (r ∷ []) []) itself)

in_slice : (xs : List ℕ) (from to i : ℕ) → from ≤ i → i < to → get_or (slice_range xs from to) (i - from) 0 ≡ get_or xs i 0
in_slice xs from to i l h =
    let e : from + (i - from) ≡ i = omega arith in
    get_or-take (to - from) (drop from xs) (i - from) 0 (omega arith) ∙ get_or-drop from xs (i - from) 0 ∙ ap (λ k. get_or xs k 0) e

same_itself : (r : ℕ) → (r == r) ≡ true
same_itself r = grind (arith, nat_tests)

-- where the rows of a span are a row's partition, the row's place is that in the span
pub place_in_span : (w : Windowed) (order : List ℕ) (from to i : ℕ) → from ≤ i → i < to → to ≤ length order
    → get_or order i 0 < length w.values
    → slice_range order from to ≡ partition_rows w (get_or order i 0) → place_at w (get_or order i 0) ≡ i - from
place_in_span w order from to i l h long here same =
    let r = get_or order i 0 in
    let wide : length (slice_range order from to) ≡ to - from =
    Rattle.std.proofs.Common.length-take-le (to - from) (drop from order)
    (omega (arith, Rattle.std.proofs.Common.length-drop from order)) in
    let at : (get_or (partition_rows w r) (i - from) 0 == r) ≡ true = ap (λ l. get_or l (i - from) 0 == r) (sym same)
    ∙ ap (λ k. k == r) (in_slice order from to i l h) ∙ same_itself r in
    place_is r (partition_rows w r) (once_in_partition w r here) (i - from) (omega (arith, wide, ap length same)) at

module _ {X : Type 0} (cmp : X → X → Ordering) (total : IsTotalOrder cmp) where
  in_all : (P : X → Type 0) (xs : List X) (i : ℕ) (d : X) → AllByRecursion P xs → i < length xs → P (get_or xs i d)
  in_all P [] i d all h = absurd (omega arith)
  in_all P (x ∷ xs) zero d all h = all.0
  in_all P (x ∷ xs) (suc i) d all h = in_all P xs i d all.1 (omega arith)

  -- in a list that goes up no element is greater than a later one
  pub up_pairs : (xs : List X) (i j : ℕ) (d : X) → IsUp cmp total xs → i ≤ j → j < length xs
      → is_gt (cmp (get_or xs i d) (get_or xs j d)) ≡ false
  up_pairs [] i j d up l h = absurd (omega arith)
  up_pairs (x ∷ xs) zero zero d up l h = ap is_gt (tied_itself total x)
  up_pairs (x ∷ xs) zero (suc j) d up l h = in_all (λ y. is_gt (cmp x y) ≡ false) xs j d up.0 (omega arith)
  up_pairs (x ∷ xs) (suc i) zero d up l h = absurd (omega arith)
  up_pairs (x ∷ xs) (suc i) (suc j) d up l h = up_pairs xs i j d up.1 (omega arith) (omega arith)

first_not_greater : (o p : Ordering) → is_gt (ordering_then o p) ≡ false → is_gt o ≡ false
first_not_greater Less p h = refl
first_not_greater Equal p h = refl
first_not_greater Greater p h = h

second_not_greater : (o p : Ordering) → is_eq o ≡ true → is_gt (ordering_then o p) ≡ false → is_gt p ≡ false
second_not_greater Less p e h = absurd (true≢false (sym e))
second_not_greater Equal p e h = h
second_not_greater Greater p e h = absurd (true≢false (sym e))

module _ (w : Windowed) (order : List ℕ) (is_sorted : order ≡ sorted (whole_cmp w) (places (length w.values))) where
  pairs : (i j : ℕ) → i ≤ j → j < length order → is_gt (whole_cmp w (get_or order i 0) (get_or order j 0)) ≡ false
  pairs i j l h =
      let e : order ≡ sorted (whole_cmp w) (places (length w.values)) = is_sorted in
      ap (λ xs. is_gt (whole_cmp w (get_or xs i 0) (get_or xs j 0))) e ∙ up_pairs (whole_cmp w) (whole_total w)
      (sorted (whole_cmp w) (places (length w.values))) i j 0 (up_sorted (whole_cmp w) (whole_total w)
      (places (length w.values))) l (omega (arith, h, ap length e))

  -- the partition values stand in order
  pub values_ordered : AreOrdered (keys_cmp w.value_order) (map (key_at w.values) order)
  values_ordered i j l h =
      let long : length (map (key_at w.values) order) ≡ length order = length-map order (key_at w.values) in
      let k : j < length order = omega (arith, h, long) in
      ap (λ x. is_gt (keys_cmp w.value_order x (key_at (map (key_at w.values) order) j)))
      (get_or-map (key_at w.values) order i 0 [] (omega arith))
      ∙ ap (λ x. is_gt (keys_cmp w.value_order (key_at w.values (get_or order i 0)) x)) (get_or-map (key_at w.values) order j 0 [] k)
      ∙ first_not_greater _ _ (pairs i j l k)

  -- and the keys where the partition values agree
  pub keys_ordered : AreOrderedWithin (keys_cmp w.value_order) (map (key_at w.values) order) (keys_cmp w.order) (map (key_at w.keys) order)
  keys_ordered i j l h agree =
      let long : length (map (key_at w.keys) order) ≡ length order = length-map order (key_at w.keys) in
      let k : j < length order = omega (arith, h, long) in
      let agreed : is_eq (keys_cmp w.value_order (key_at w.values (get_or order i 0)) (key_at w.values (get_or order j 0))) ≡ true =
      sym (ap (λ x. is_eq (keys_cmp w.value_order x (key_at w.values (get_or order j 0))))
      (get_or-map (key_at w.values) order i 0 [] (omega arith)))
      ∙ sym (ap (λ x. is_eq (keys_cmp w.value_order (key_at (map (key_at w.values) order) i) x))
      (get_or-map (key_at w.values) order j 0 [] k))
      ∙ agree in
      ap (λ x. is_gt (keys_cmp w.order x (key_at (map (key_at w.keys) order) j))) (get_or-map (key_at w.keys) order i 0 [] (omega arith))
      ∙ ap (λ x. is_gt (keys_cmp w.order (key_at w.keys (get_or order i 0)) x)) (get_or-map (key_at w.keys) order j 0 [] k)
      ∙ second_not_greater _ _ agreed (pairs i j l k)

-- ordered lists under other names
pub same_ordered : (ks js : List SortKey) (xs ys : List (List Meaning)) → js ≡ ks → ys ≡ xs → AreOrdered (keys_cmp ks) xs
    → AreOrdered (keys_cmp js) ys
same_ordered ks js xs ys e f h = let P : List SortKey → Type 0 = λ k. AreOrdered (keys_cmp k) ys in
    let Q : List (List Meaning) → Type 0 = λ l. AreOrdered (keys_cmp ks) l in subst P (sym e) (subst Q (sym f) h)

pub same_within : (vs us : List SortKey) (xs ys : List (List Meaning)) (ks js : List SortKey) (cs bs : List (List Meaning))
    → us ≡ vs → ys ≡ xs → js ≡ ks → bs ≡ cs
    → AreOrderedWithin (keys_cmp vs) xs (keys_cmp ks) cs → AreOrderedWithin (keys_cmp us) ys (keys_cmp js) bs
same_within vs us xs ys ks js cs bs e f g h o =
    let P : List SortKey → Type 0 = λ k. AreOrderedWithin (keys_cmp k) ys (keys_cmp js) bs in
    let Q : List (List Meaning) → Type 0 = λ l. AreOrderedWithin (keys_cmp vs) l (keys_cmp js) bs in
    let R : List SortKey → Type 0 = λ k. AreOrderedWithin (keys_cmp vs) xs (keys_cmp k) bs in
    let S : List (List Meaning) → Type 0 = λ l. AreOrderedWithin (keys_cmp vs) xs (keys_cmp ks) l in
    subst P (sym e) (subst Q (sym f) (subst R (sym g) (subst S (sym h) o)))
