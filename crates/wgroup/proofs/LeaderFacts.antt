-- The first of equal rows stands in front of them in their order.
use Rattle.std.proofs.Common.{◌≡◌, ◌≢◌, ℕ, zero, suc, ◌+◌, ◌<◌, ◌≤◌, Bool, true, false, cond, eqb, List, [], ◌∷◌, length, get_or, set}
use Rattle.std.proofs.Common.{Ordering, Less, Equal, Greater, is_gt, inl, inr, ◌⊎◌, refl, sym, ap, subst, ◌∙◌, arith, true≢false}
use Rattle.std.specs.List.{AllByRecursion}
use Rattle.std.specs.Cmp.{IsEquivalence, IsTotalOrder}
use Rattle.std.specs.Ordering.{is_eq, ordering_reverse}
use Rattle.std.proofs.lemmas.Bool.Decides.{eqb_tells}
use Rattle.std.proofs.lemmas.Cmp.{alike_right}
use Rattle.std.proofs.lemmas.List.{get_or-set_same, get_or-set_other}
use Rattle.wframe.specs.Places.{places, places_from}
use Rattle.wframe.specs.Sorting.{inserted, sorted}
use Rattle.wframe.proofs.SortFacts.{all_inserted, all_sorted}
use Rattle.wgroup.specs.Sight.{IsFirst}

from_eq : (o : Ordering) → is_eq o ≡ true → o ≡ Equal
from_eq Less h = absurd (true≢false (sym h))
from_eq Equal h = refl
from_eq Greater h = absurd (true≢false (sym h))

-- one of three
pub in_order : (a b : ℕ) → (a < b) ⊎ ((a ≡ b) ⊎ (b < a))
in_order zero zero = inr (inl refl)
in_order zero (suc b) = inl (omega arith)
in_order (suc a) zero = inr (inr (omega arith))
in_order (suc a) (suc b) = go (in_order a b)
  where
    go : (a < b) ⊎ ((a ≡ b) ⊎ (b < a)) → (suc a < suc b) ⊎ ((suc a ≡ suc b) ⊎ (suc b < suc a))
    go (inl h) = inl (omega (arith, h))
    go (inr (inl e)) = inr (inl (ap suc e))
    go (inr (inr h)) = inr (inr (omega (arith, h)))

-- a number is in a list
abbrev IsIn : ℕ → List ℕ → Type 0
IsIn i [] = ⊥
IsIn i (x ∷ xs) = (i ≡ x) ⊎ IsIn i xs

at_in : (xs : List ℕ) (i : ℕ) → IsIn i xs → (j : ℕ) × (j < length xs) × (get_or xs j 0 ≡ i)
at_in [] i h = absurd h
at_in (x ∷ xs) i (inl e) = (0, omega arith, sym e)
at_in (x ∷ xs) i (inr h) =
    let found = at_in xs i h in
    (suc found.0, (let l : found.0 < length xs = found.1 in omega (arith, l)), found.2)

in_places : (i a n : ℕ) → a ≤ i → i < a + n → IsIn i (places_from a n)
in_places i a zero h k = absurd (omega (arith, h, k))
in_places i a (suc n) h k = go (in_order a i) (λ l. in_places i (a + 1) n (omega (arith, l)) (omega (arith, k)))
  where
    go : (a < i) ⊎ ((a ≡ i) ⊎ (i < a)) → (a < i → IsIn i (places_from (a + 1) n)) → IsIn i (a ∷ places_from (a + 1) n)
    go (inl l) more = inr (more l)
    go (inr (inl e)) more = inl (sym e)
    go (inr (inr l)) more = absurd (omega (arith, l, h))

places_above : (x a n : ℕ) → x < a → AllByRecursion (λ y. x < y) (places_from a n)
places_above x a zero h = tt
places_above x a (suc n) h = (h, places_above x (a + 1) n (omega (arith, h)))

pub all_at : (P : ℕ → Type 0) (xs : List ℕ) (i : ℕ) → AllByRecursion P xs → i < length xs → P (get_or xs i 0)
all_at P [] i all h = absurd (omega (arith, h))
all_at P (x ∷ xs) zero all h = all.0
all_at P (x ∷ xs) (suc i) all h = all_at P xs i all.1 (omega (arith, h))

module _ (c : ℕ → ℕ → Ordering) (total : IsTotalOrder c) where
  -- a row stands before another one: it is less, or equal with a smaller number
  abbrev Before : ℕ → ℕ → Type 0
  Before x y = (c x y ≡ Less) ⊎ ((c x y ≡ Equal) × (x < y))

  before_less : (x y z : ℕ) → Before x y → c y z ≡ Less → c x z ≡ Less
  before_less x y z (inl h) l = total.trans x y z h l
  before_less x y z (inr h) l = total.congr x y z h.0 ∙ l

  before_trans : (x y z : ℕ) → Before x y → Before y z → Before x z
  before_trans x y z h (inl l) = inl (before_less x y z h l)
  before_trans x y z (inl h) (inr k) = inl (sym (alike_right total y z x k.0) ∙ h)
  before_trans x y z (inr h) (inr k) = inr (
    total.congr x y z h.0 ∙ k.0,
    (let l : x < y = h.1 in let m : y < z = k.1 in
        omega (arith, l, m)),
  )

  abbrev Rises : List ℕ → Type 0
  Rises [] = Unit {0}
  Rises (x ∷ xs) = AllByRecursion (Before x) xs × Rises xs

  all_before : (x y : ℕ) (ys : List ℕ) → Before x y → AllByRecursion (Before y) ys → AllByRecursion (Before x) ys
  all_before x y [] h all = tt
  all_before x y (z ∷ zs) h all = (before_trans x y z h all.0, all_before x y zs h all.1)

  rises_inserted : (x : ℕ) (ys : List ℕ) → Rises ys → AllByRecursion (λ y. x < y) ys → Rises (inserted c x ys)
  rises_inserted x [] r front = (tt, tt)
  rises_inserted x (y ∷ ys) r front = go (c x y) refl (rises_inserted x ys r.1 front.1)
    where
      stays : Before x y → Rises (x ∷ y ∷ ys)
      stays h = ((h, all_before x y ys h r.0), r)

      go : (o : Ordering) → c x y ≡ o → Rises (inserted c x ys) → Rises (cond (is_gt (c x y)) (y ∷ inserted c x ys) (x ∷ y ∷ ys))
      go Less e more = subst (λ o. Rises (cond (is_gt o) (y ∷ inserted c x ys) (x ∷ y ∷ ys))) (sym e) (stays (inl e))
      go Equal e more = subst (λ o. Rises (cond (is_gt o) (y ∷ inserted c x ys) (x ∷ y ∷ ys))) (sym e) (stays (inr (e, front.0)))
      go Greater e more =
          let back : c y x ≡ Less = total.antisymm y x ∙ ap ordering_reverse e in
          subst (λ o. Rises (cond (is_gt o) (y ∷ inserted c x ys) (x ∷ y ∷ ys))) (sym e)
          (all_inserted c total (Before y) x ys (inl back) r.0, more)

  rises_sorted : (a n : ℕ) → Rises (sorted c (places_from a n))
  rises_sorted a zero = tt
  rises_sorted a (suc n) = rises_inserted a (sorted c (places_from (a + 1) n)) (rises_sorted (a + 1) n)
      (all_sorted c total (λ y. a < y) (places_from (a + 1) n) (places_above a (a + 1) n (omega arith)))

  rises_at : (xs : List ℕ) (i j : ℕ) → Rises xs → i < j → j < length xs → Before (get_or xs i 0) (get_or xs j 0)
  rises_at [] i j r h k = absurd (omega (arith, k))
  rises_at (x ∷ xs) i zero r h k = absurd (omega (arith, h))
  rises_at (x ∷ xs) zero (suc j) r h k = all_at (Before x) xs j r.0 (omega (arith, k))
  rises_at (x ∷ xs) (suc i) (suc j) r h k = rises_at xs i j r.1 (omega (arith, h)) (omega (arith, k))

  in_inserted : (x z : ℕ) (ys : List ℕ) → (z ≡ x) ⊎ IsIn z ys → IsIn z (inserted c x ys)
  in_inserted x z [] (inl e) = inl e
  in_inserted x z [] (inr h) = absurd h
  in_inserted x z (y ∷ ys) h = go (is_gt (c x y)) h (in_inserted x z ys)
    where
      go : (b : Bool) → (z ≡ x) ⊎ IsIn z (y ∷ ys) → ((z ≡ x) ⊎ IsIn z ys → IsIn z (inserted c x ys))
          → IsIn z (cond b (y ∷ inserted c x ys) (x ∷ y ∷ ys))
      go true (inl e) more = inr (more (inl e))
      go true (inr (inl e)) more = inl e
      go true (inr (inr h)) more = inr (more (inr h))
      go false h more = h

  in_sorted : (z : ℕ) (xs : List ℕ) → IsIn z xs → IsIn z (sorted c xs)
  in_sorted z [] h = h
  in_sorted z (x ∷ xs) (inl e) = in_inserted x z (sorted c xs) (inl e)
  in_sorted z (x ∷ xs) (inr h) = in_inserted x z (sorted c xs) (inr (in_sorted z xs h))

  module _ (same : ℕ → ℕ → Bool) (eqv : IsEquivalence same) (n : ℕ) (decides : (i j : ℕ) → i < n → j < n → same i j ≡ is_eq (c i j))
      (order : List ℕ) (is : order ≡ sorted c (places n)) (long : length order ≡ n) (within : (j : ℕ) → j < n → get_or order j 0 < n) where
    alike : (i j : ℕ) → same i j ≡ true → same i ≡ same j
    alike i j h = λ p k. eqv.congr i j k h p

    stands_before : (i j : ℕ) → i < j → j < n → Before (get_or order i 0) (get_or order j 0)
    stands_before i j h k = rises_at order i j (subst Rises (sym is) (rises_sorted 0 n)) h (omega (arith, k, long))

    place_of : (i : ℕ) → i < n → (j : ℕ) × (j < n) × (get_or order j 0 ≡ i)
    place_of i h =
        let found = at_in order i (subst (IsIn i) (sym is) (in_sorted i (places n) (in_places i 0 n (omega arith) (omega (arith, h))))) in
        (found.0, (let l : found.0 < length order = found.1 in omega (arith, l, long)), found.2)

    equal_of : (i j : ℕ) → i < n → j < n → same i j ≡ true → c i j ≡ Equal
    equal_of i j h k e = from_eq (c i j) (sym (decides i j h k) ∙ e)

    not_less : (i j : ℕ) → i < n → j < n → same i j ≡ true → c i j ≡ Less → ⊥
    not_less i j h k e l = let p : Less ≡ Equal = sym l ∙ equal_of i j h k e in cc

    -- what is the same as this row, of those behind it or at its place, has no smaller number
    behind : (place i j row : ℕ) → place ≤ j → j < n → get_or order j 0 ≡ i → get_or order place 0 ≡ row → same row i ≡ true → row ≤ i
    behind place i j row h k at here e = go (in_order place j)
      where
        least : Before row i → row < n → i < n → row ≤ i
        least (inl l) r s = absurd (not_less row i r s e l)
        least (inr p) r s = (let l : row < i = p.1 in omega (arith, l))

        go : (place < j) ⊎ ((place ≡ j) ⊎ (j < place)) → row ≤ i
        go (inl l) =
            let r : row < n = subst (λ x. x < n) here (within place (omega (arith, l, k))) in
            let s : i < n = subst (λ x. x < n) at (within j k) in
            least (subst (λ x. Before x i) here (subst (Before (get_or order place 0)) at (stands_before place j l k))) r s
        go (inr (inl q)) = let one : row ≡ i = sym here ∙ ap (λ p. get_or order p 0) q ∙ at in omega (arith, one)
        go (inr (inr l)) = absurd (omega (arith, l, h))

    -- what is the same as a row, and stands before it, stands no further than a row that is another
    between : (last row i : ℕ) → last < n → row < n → i < n → (i ≡ last) ⊎ Before i last → Before last row
        → same row i ≡ true → same last row ≡ true
    between last row i h k l up (inr p) e = decides last row h k ∙ ap is_eq p.0
    between last row i h k l (inl q) (inl p) e = absurd (not_less i row l k (eqv.symm i row ∙ e) (ap (λ x. c x row) q ∙ p))
    between last row i h k l (inr q) (inl p) e = absurd (not_less i row l k (eqv.symm i row ∙ e) (before_less i last row q p))

    abbrev at : ℕ → ℕ
    at j = get_or order j 0

    -- the leader of the row before leads this row, if it is the same
    led : (place leader row : ℕ) → leader < n → row < n → (place ≡ 0 → leader ≡ 0)
        → ((j : ℕ) → suc j ≡ place → IsFirst same n (at j) leader) → same leader row ≡ true → IsFirst same n row leader
    led zero leader row h k begun last e = record {
      alike = eqv.symm row leader ∙ e;
      least =
          λ i l s. (let z : leader ≡ 0 = begun refl in omega (arith, z));
    }
    led (suc j) leader row h k begun last e =
        let f = last j refl in
        let one : same (at j) ≡ same row = alike (at j) leader f.alike ∙ alike leader row e in
        record { alike = eqv.symm row leader ∙ e; least = λ i l s. f.least i l (ap (λ p. p i) one ∙ s) }

    -- and otherwise the row leads itself
    leads : (place leader row : ℕ) → place < n → at place ≡ row → ((j : ℕ) → suc j ≡ place → IsFirst same n (at j) leader)
        → same leader row ≡ false → IsFirst same n row row
    leads place leader row h here last e =
        record { alike = eqv.refl row; least = λ i l s. (let found = place_of i l in least_at i found.0 l found.1 found.2 s) }
      where
        row_within : row < n
        row_within = subst (λ x. x < n) here (within place h)

        earlier : (p i j : ℕ) → suc p ≡ place → i < n → j < place → at j ≡ i → same row i ≡ true → ⊥
        earlier p i j q l k is_at s =
            let p_within : at p < n = within p (omega (arith, q, h)) in
            let f = last p q in
            let next : Before (at p) row = subst (Before (at p)) here (stands_before p place (omega (arith, q)) h) in
            let same_last : same (at p) row ≡ true = between (at p) row i p_within row_within l (up (in_order j p)) next s in
            true≢false (sym same_last ∙ ap (λ g. g row) (alike (at p) leader f.alike) ∙ e)
          where
            up : (j < p) ⊎ ((j ≡ p) ⊎ (p < j)) → (i ≡ at p) ⊎ Before i (at p)
            up (inl m) = inr (subst (λ x. Before x (at p)) is_at (stands_before j p m (omega (arith, q, h))))
            up (inr (inl m)) = inl (sym is_at ∙ ap at m)
            up (inr (inr m)) = absurd (omega (arith, m, k, q))

        by_place : (p i j : ℕ) → p ≡ place → i < n → j < place → at j ≡ i → same row i ≡ true → ⊥
        by_place zero i j q l k is_at s = omega (arith, q, k)
        by_place (suc p) i j q l k is_at s = earlier p i j q l k is_at s

        least_at : (i j : ℕ) → i < n → j < n → at j ≡ i → same row i ≡ true → row ≤ i
        least_at i j l k is_at s = go (in_order j place)
          where
            go : (j < place) ⊎ ((j ≡ place) ⊎ (place < j)) → row ≤ i
            go (inl m) = absurd (by_place place i j refl l m is_at s)
            go (inr (inl m)) = behind place i j row (omega (arith, m)) k is_at here s
            go (inr (inr m)) = behind place i j row (omega (arith, m)) k is_at here s

    pub next_leads : (place leader row next : ℕ) → place < n → at place ≡ row → leader < n → (place ≡ 0 → leader ≡ 0)
        → ((j : ℕ) → suc j ≡ place → IsFirst same n (at j) leader)
        → (same leader row ≡ true → next ≡ leader) → (same leader row ≡ false → next ≡ row) → IsFirst same n row next
    next_leads place leader row next h here k begun last kept new = go (same leader row) refl
      where
        row_within : row < n
        row_within = subst (λ x. x < n) here (within place h)

        go : (b : Bool) → same leader row ≡ b → IsFirst same n row next
        go true e = subst (IsFirst same n row) (sym (kept e)) (led place leader row k row_within begun last e)
        go false e = subst (IsFirst same n row) (sym (new e)) (leads place leader row h here last e)

    pub done_next : (place row next : ℕ) (leaders : List ℕ) → at place ≡ row → row < length leaders
        → IsFirst same n row next → ((j : ℕ) → j < place → IsFirst same n (at j) (get_or leaders (at j) 0))
        → (j : ℕ) → j < place + 1 → IsFirst same n (at j) (get_or (set leaders row next) (at j) 0)
    done_next place row next leaders here room first done j h = go (eqb_tells (at j) row)
      where
        go : ((eqb (at j) row ≡ true) × (at j ≡ row)) ⊎ ((eqb (at j) row ≡ false) × (at j ≢ row))
            → IsFirst same n (at j) (get_or (set leaders row next) (at j) 0)
        go (inl (e, q)) = subst (λ i. IsFirst same n i (get_or (set leaders row next) i 0)) (sym q)
            (subst (IsFirst same n row) (sym (get_or-set_same leaders row next 0 room)) first)
        go (inr (e, d)) =
            let apart : j ≢ place = λ m. d (ap at m ∙ here) in
            subst (IsFirst same n (at j)) (sym (get_or-set_other leaders row (at j) next 0 d)) (done j (omega (arith, apart, h)))

    -- once all places are done
    pub all_done : (leaders : List ℕ) → ((j : ℕ) → j < n → IsFirst same n (at j) (get_or leaders (at j) 0)) → (row : ℕ)
        → row < n → IsFirst same n row (get_or leaders row 0)
    all_done leaders done row h =
        let found = place_of row h in
        subst (λ i. IsFirst same n i (get_or leaders i 0)) found.2 (done found.0 found.1)
