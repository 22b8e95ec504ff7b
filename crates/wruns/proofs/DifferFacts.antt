-- Rows in order: no two share their keys just where each stands before the next one by the keys alone.
use Rattle.std.proofs.Common.{◌≡◌, ℕ, zero, suc, ◌+◌, ◌<◌, ◌≤◌, Bool, true, false, cond, List, [], ◌∷◌, length, map, filter}
use Rattle.std.proofs.Common.{refl, sym, ap, subst, ◌∙◌, arith, Ordering, Less, Equal, Greater, is_lt, get_or, true≢false}
use Rattle.std.proofs.Common.{◌⊎◌, inl, inr}
use Rattle.std.specs.List.{AllByRecursion}
use Rattle.std.specs.List.Sorted.{ties}
use Rattle.std.specs.Cmp.{IsTotalOrder}
use Rattle.std.specs.Ordering.{on, is_eq, ordering_reverse}
use Rattle.std.proofs.Math.Nat.{eq-or-lt_of_le}
use Rattle.std.proofs.lemmas.Bool.{cases_order}
use Rattle.std.proofs.lemmas.Cmp.{on_total, tied_itself}
use Rattle.std.proofs.lemmas.List.{length-map}
use Rattle.wvalues.specs.declared.key.SortKey.{SortKey}
use Rattle.wvalues.specs.Meaning.{Meaning}
use Rattle.wvalues.specs.Order.{keys_cmp}
use Rattle.wvalues.specs.OrderLaws.{keys_total}
use Rattle.wframe.specs.Places.{places_from, places}
use Rattle.wframe.proofs.SortFacts.{lt, class, class_sorted, tied_is_equal, all_sorted, up_sorted}
use Rattle.wruns.specs.Differing.{AllDiffer}
use Rattle.wruns.specs.Lists.{ref}
use Rattle.wruns.specs.Orderings.{number_of}
use Rattle.wruns.specs.Refs.{ref_cmp, ref_keys, refs, refs_by}
use Rattle.wruns.specs.Runs.{joined, keys_at, row_keys, run_of}
use Rattle.wruns.specs.declared.refs.RowRef.{RowRef}
use Rattle.wruns.proofs.OneList.{Rises, sorted_by_up}
use Rattle.wruns.proofs.OrderingFacts.{all_told, below, mapped_at, numbers_in_order, IsTold}
use Rattle.wruns.proofs.RefFacts.{ref_total}

is_less : (o : Ordering) → is_lt o ≡ true → o ≡ Less
is_less Less h = refl
is_less Equal h = absurd (true≢false (sym h))
is_less Greater h = absurd (true≢false (sym h))

is_equal : (o : Ordering) → is_eq o ≡ true → o ≡ Equal
is_equal Less h = absurd (true≢false (sym h))
is_equal Equal h = refl
is_equal Greater h = absurd (true≢false (sym h))

module _ {X : Type 0} (cmp : X → X → Ordering) (total : IsTotalOrder cmp) where
  -- each element up to a place stands before the next one
  abbrev pub RiseTo : X → List X → ℕ → Type 0
  RiseTo d xs place = (k : ℕ) → suc k < place → cmp (get_or xs k d) (get_or xs (suc k) d) ≡ Less

  -- one element more
  pub rise_more : (d : X) (xs : List X) (k place : ℕ) → suc k ≡ place → RiseTo d xs place
      → is_lt (cmp (get_or xs k d) (get_or xs place d)) ≡ true → RiseTo d xs (suc place)
  rise_more d xs k place next rise less = λ i h. go i (eq-or-lt_of_le (omega (arith, h, next)))
    where
      go : (i : ℕ) → (i ≡ k) ⊎ (i < k) → cmp (get_or xs i d) (get_or xs (suc i) d) ≡ Less
      go i (inl e) = ap (λ n. cmp (get_or xs n d) (get_or xs (suc n) d)) e ∙ ap (λ n. cmp (get_or xs k d) (get_or xs n d)) next
          ∙ is_less (cmp (get_or xs k d) (get_or xs place d)) less
      go i (inr small) = rise i (omega (arith, small, next))

  above_all : (x y : X) (ys : List X) → cmp x y ≡ Less → AllByRecursion (λ z. cmp y z ≡ Less) ys
      → AllByRecursion (λ z. cmp x z ≡ Less) ys
  above_all x y [] h all = tt
  above_all x y (z ∷ zs) h all = (total.trans x y z h all.0, above_all x y zs h all.1)

  -- so each stands before all that are behind it
  pub rises : (d : X) (xs : List X) → RiseTo d xs (length xs) → Rises cmp xs
  rises d [] rise = tt
  rises d (x ∷ []) rise = (tt, tt)
  rises d (x ∷ y ∷ ys) rise =
      let here : cmp x y ≡ Less = rise 0 (omega arith) in
      let rest = rises d (y ∷ ys) (λ k h. rise (suc k) (omega (arith, h))) in
      ((here, above_all x y ys here rest.0), rest)

  none_tied : (w x : X) (ys : List X) → cmp w x ≡ Equal → AllByRecursion (λ y. cmp x y ≡ Less) ys → class cmp total w ys ≡ []
  none_tied w x [] e all = refl
  none_tied w x (y ∷ ys) e all =
      let below : lt cmp total w y ≡ true = ap is_lt (total.congr w x y e ∙ all.0) in
      let apart : ties (lt cmp total) w y ≡ false = rw below refl in
      rw apart (none_tied w x ys e all.1)

  -- and at most one of them is equal to an element
  pub at_most_one : (w : X) (xs : List X) → Rises cmp xs → length (class cmp total w xs) ≤ 1
  at_most_one w [] rise = omega arith
  at_most_one w (x ∷ xs) rise = go (ties (lt cmp total) w x) refl (at_most_one w xs rise.1)
    where
      go : (b : Bool) → ties (lt cmp total) w x ≡ b → length (class cmp total w xs) ≤ 1
          → length (cond b (x ∷ class cmp total w xs) (class cmp total w xs)) ≤ 1
      go true e more =
          let none : class cmp total w xs ≡ [] = none_tied w x xs (tied_is_equal cmp total w x e) rise.0 in
          let n : length (class cmp total w xs) ≡ 0 = ap length none in
          omega (arith, n)
      go false e more = more

  is_tied : (x y : X) → cmp x y ≡ Equal → ties (lt cmp total) x y ≡ true
  is_tied x y e =
      let one : lt cmp total x y ≡ false = ap is_lt e in
      let two : lt cmp total y x ≡ false = ap is_lt (total.antisymm y x ∙ ap ordering_reverse e) in
      rw (one, two) refl

-- two neighbours that pass are two
pub two_pass : {X : Type 0} (p : X → Bool) (d : X) (xs : List X) (k : ℕ) → suc k < length xs → p (get_or xs k d) ≡ true
    → p (get_or xs (suc k) d) ≡ true → 2 ≤ length (filter p xs)
two_pass p d [] k low h g = absurd (omega (arith, low))
two_pass p d (x ∷ []) k low h g = absurd (omega (arith, low))
two_pass p d (x ∷ y ∷ ys) zero low h g = rw (h, g) (omega arith)
two_pass p d (x ∷ y ∷ ys) (suc k) low h g = more (p x) (two_pass p d (y ∷ ys) k (omega (arith, low)) h g)
  where
    more : (b : Bool) → 2 ≤ length (filter p (y ∷ ys)) → 2 ≤ length (cond b (x ∷ filter p (y ∷ ys)) (filter p (y ∷ ys)))
    more true two = omega (arith, two)
    more false two = two

all_at : {X : Type 0} (P : X → Type 0) (d : X) (xs : List X) (k : ℕ) → AllByRecursion P xs → k < length xs → P (get_or xs k d)
all_at P d [] k all low = absurd (omega (arith, low))
all_at P d (x ∷ xs) zero all low = all.0
all_at P d (x ∷ xs) (suc k) all low = all_at P d xs k all.1 (omega (arith, low))

module _ (p : ℕ → Bool) (v m : ℕ) (alone : (i : ℕ) → i < m → p i ≡ true → v ≡ i) where
  none_there : (a n : ℕ) → v < a → a + n ≤ m → length (filter p (places_from a n)) ≡ 0
  none_there a zero low high = refl
  none_there a (suc n) low high = go (p a) refl (none_there (a + 1) n (omega (arith, low)) (omega (arith, high)))
    where
      go : (b : Bool) → p a ≡ b → length (filter p (places_from (a + 1) n)) ≡ 0
          → length (cond b (a ∷ filter p (places_from (a + 1) n)) (filter p (places_from (a + 1) n))) ≡ 0
      go true e more =
          let same = alone a (omega (arith, high)) e in
          absurd (omega (arith, low, same))
      go false e more = more

  -- where one place alone passes, there is at most one
  one_passes : (a n : ℕ) → a + n ≤ m → length (filter p (places_from a n)) ≤ 1
  one_passes a zero high = omega arith
  one_passes a (suc n) high = go (p a) refl (one_passes (a + 1) n (omega (arith, high)))
    where
      go : (b : Bool) → p a ≡ b → length (filter p (places_from (a + 1) n)) ≤ 1
          → length (cond b (a ∷ filter p (places_from (a + 1) n)) (filter p (places_from (a + 1) n))) ≤ 1
      go true e more =
          let same = alone a (omega (arith, high)) e in
          let none = none_there (a + 1) n (omega (arith, same)) (omega (arith, high)) in
          omega (arith, none)
      go false e more = more

module _ (p : ℕ → Bool) where
  no_fewer : (m a : ℕ) (b : Bool) (l : List ℕ) → m ≤ length l → m ≤ length (cond b (a ∷ l) l)
  no_fewer m a true l h = omega (arith, h)
  no_fewer m a false l h = h

  one_there : (j a n : ℕ) → a ≤ j → j < a + n → p j ≡ true → 1 ≤ length (filter p (places_from a n))
  one_there j a zero low high h = absurd (omega (arith, low, high))
  one_there j a (suc n) low high h = go (eq-or-lt_of_le low) (λ less. one_there j (a + 1) n (omega (arith, less)) (omega (arith, high)) h)
    where
      go : (a ≡ j) ⊎ (a < j) → (a < j → 1 ≤ length (filter p (places_from (a + 1) n))) → 1 ≤ length (filter p (places_from a (suc n)))
      go (inl e) later =
          let here : p a ≡ true = ap p e ∙ h in
          rw here (omega arith)
      go (inr less) later = no_fewer 1 a (p a) (filter p (places_from (a + 1) n)) (later less)

  -- two places that pass are two
  two_there : (i j a n : ℕ) → a ≤ i → i < j → j < a + n → p i ≡ true → p j ≡ true → 2 ≤ length (filter p (places_from a n))
  two_there i j a zero low up high h k = absurd (omega (arith, low, up, high))
  two_there i j a (suc n) low up high h k =
      go (eq-or-lt_of_le low) (λ less. two_there i j (a + 1) n (omega (arith, less)) up (omega (arith, high)) h k)
    where
      go : (a ≡ i) ⊎ (a < i) → (a < i → 2 ≤ length (filter p (places_from (a + 1) n))) → 2 ≤ length (filter p (places_from a (suc n)))
      go (inl e) later =
          let here : p a ≡ true = ap p e ∙ h in
          let one = one_there j (a + 1) n (omega (arith, e, up)) (omega (arith, high)) k in
          rw here (omega (arith, one))
      go (inr less) later = no_fewer 2 a (p a) (filter p (places_from (a + 1) n)) (later less)

module _ (keys : List SortKey) where
  -- a list of rows of which each stands before all that are behind it has each of them once
  run_differs : (rows : List (List Meaning)) → Rises (on (keys_at keys rows) (keys_cmp keys)) (run_of keys rows) → AllDiffer keys rows
  run_differs rows rise i j p q h = go (cases_order i j)
    where
      K : ℕ → ℕ → Ordering
      K = on (keys_at keys rows) (keys_cmp keys)

      total : IsTotalOrder K
      total = on_total (keys_at keys rows) (keys_total keys)

      few : length (class K total i (places (length rows))) ≤ 1
      few = subst (λ l. length l ≤ 1) (class_sorted K total i (places (length rows))) (at_most_one K total i (run_of keys rows) rise)

      first : ties (lt K total) i i ≡ true
      first = is_tied K total i i (tied_itself total i)

      second : ties (lt K total) i j ≡ true
      second = is_tied K total i j (is_equal (K i j) h)

      go : (i ≡ j) ⊎ ((i < j) ⊎ (j < i)) → i ≡ j
      go (inl e) = e
      go (inr (inl less)) =
          let two = two_there (ties (lt K total) i) i j 0 (length rows) (omega arith) less (omega (arith, q)) first second in
          absurd (omega (arith, few, two))
      go (inr (inr more)) =
          let two = two_there (ties (lt K total) i) j i 0 (length rows) (omega arith) more (omega (arith, p)) second first in
          absurd (omega (arith, few, two))

  -- two neighbours in the run of which the first stands not before the second share their keys
  run_shares : (rows : List (List Meaning)) (k : ℕ) (d : ℕ) → suc k < length (run_of keys rows)
      → is_lt (keys_cmp keys (keys_at keys rows (get_or (run_of keys rows) k d)) (keys_at keys rows (get_or (run_of keys rows) (suc k) d)))
      ≡ false → AllDiffer keys rows → ⊥
  run_shares rows k d low no_less differ = omega (arith, few, two)
    where
      K : ℕ → ℕ → Ordering
      K = on (keys_at keys rows) (keys_cmp keys)

      total : IsTotalOrder K
      total = on_total (keys_at keys rows) (keys_total keys)

      n : ℕ
      n = length rows

      v : ℕ
      v = get_or (run_of keys rows) k d

      w : ℕ
      w = get_or (run_of keys rows) (suc k) d

      inside : v < n
      inside = all_at (λ i. i < n) d (run_of keys rows) k (all_sorted K total (λ i. i < n) (places n) (below 0 n n (omega arith)))
          (omega (arith, low))

      in_order : is_lt (K w v) ≡ false
      in_order = ap (λ j. is_lt (K (get_or (run_of keys rows) j d) v)) (omega arith)
          ∙ sorted_by_up K total (run_of keys rows) (up_sorted K total (places n)) k d (omega arith) (omega (arith, low))

      first : ties (lt K total) v v ≡ true
      first = is_tied K total v v (tied_itself total v)

      second : ties (lt K total) v w ≡ true
      second = rw (no_less, in_order) refl

      one_of : (i : ℕ) → i < n → ties (lt K total) v i ≡ true → v ≡ i
      one_of i small h = differ v i inside small (ap is_eq (tied_is_equal K total v i h))

      few : length (class K total v (run_of keys rows)) ≤ 1
      few = subst (λ l. length l ≤ 1) (sym (class_sorted K total v (places n)))
          (one_passes (ties (lt K total) v) v n one_of 0 n (omega arith))

      two : 2 ≤ length (class K total v (run_of keys rows))
      two = two_pass (ties (lt K total) v) d (run_of keys rows) k low first second

  module _ (s : List (List (List Meaning))) where
    abbrev by_refs : RowRef → RowRef → Ordering
    by_refs = on (ref_keys keys s) (keys_cmp keys)

    abbrev by_numbers : ℕ → ℕ → Ordering
    by_numbers = on (keys_at keys (joined s)) (keys_cmp keys)

    one_moved : (x : RowRef) → IsTold keys s x → (ys : List RowRef) → AllByRecursion (IsTold keys s) ys
        → AllByRecursion (λ y. by_refs x y ≡ Less) ys → AllByRecursion (λ y. by_numbers (number_of s x) y ≡ Less) (map (number_of s) ys)
    one_moved x t [] told all = tt
    one_moved x t (y ∷ ys) told all = (
      ap (λ k. keys_cmp keys k (keys_at keys (joined s) (number_of s y))) (sym t)
          ∙ ap (keys_cmp keys (ref_keys keys s x)) (sym told.0) ∙ all.0,
      one_moved x t ys told.1 all.1,
    )

    all_moved : (xs : List RowRef) → AllByRecursion (IsTold keys s) xs → Rises by_refs xs → Rises by_numbers (map (number_of s) xs)
    all_moved [] told rise = tt
    all_moved (x ∷ xs) told rise = (one_moved x told.0 xs told.1 rise.0, all_moved xs told.1 rise.1)

    -- rows in order, of which each stands before the next one by the keys, differ
    pub neighbours_differ : RiseTo by_refs (on_total (ref_keys keys s) (keys_total keys)) (ref 0 0) (refs_by keys s)
        (length (refs_by keys s)) → AllDiffer keys (joined s)
    neighbours_differ rise =
        let told : AllByRecursion (IsTold keys s) (refs_by keys s) =
        all_sorted (ref_cmp keys s) (ref_total keys s) (IsTold keys s) (refs s) (all_told keys [] s) in
        run_differs (joined s) (subst (Rises by_numbers) (numbers_in_order keys s) (all_moved (refs_by keys s) told
        (rises by_refs (on_total (ref_keys keys s) (keys_total keys)) (ref 0 0) (refs_by keys s) rise)))

    -- and where one stands not before the next one, the two share their keys
    pub neighbours_share : (k : ℕ) → suc k < length (refs_by keys s)
        → is_lt (by_refs (get_or (refs_by keys s) k (ref 0 0)) (get_or (refs_by keys s) (suc k) (ref 0 0))) ≡ false
        → AllDiffer keys (joined s) → ⊥
    neighbours_share k low no_less = run_shares (joined s) k d many less
      where
        xs : List RowRef
        xs = refs_by keys s

        run : List ℕ
        run = run_of keys (joined s)

        d : ℕ
        d = number_of s (ref 0 0)

        long : length (map (number_of s) xs) ≡ length xs
        long = length-map xs (number_of s)

        longer : length (map (number_of s) xs) ≡ length run
        longer = ap length (numbers_in_order keys s)

        many : suc k < length run
        many = omega (arith, low, long, longer)

        at : (j : ℕ) → j < length xs → ref_keys keys s (get_or xs j (ref 0 0)) ≡ keys_at keys (joined s) (get_or run j d)
        at j small = all_at (IsTold keys s) (ref 0 0) xs j (all_sorted (ref_cmp keys s) (ref_total keys s) (IsTold keys s) (refs s)
            (all_told keys [] s)) small ∙ ap (keys_at keys (joined s)) (sym (mapped_at (number_of s) xs j (ref 0 0) d small)
            ∙ ap (λ l. get_or l j d) (numbers_in_order keys s))

        less : is_lt (by_numbers (get_or run k d) (get_or run (suc k) d)) ≡ false
        less = ap (λ f. is_lt (keys_cmp keys f (keys_at keys (joined s) (get_or run (suc k) d)))) (sym (at k (omega (arith, low))))
            ∙ ap (λ f. is_lt (keys_cmp keys (ref_keys keys s (get_or xs k (ref 0 0))) f)) (sym (at (suc k) low)) ∙ no_less

    pub shared : (rows : List RowRef) (k place : ℕ) → suc k ≡ place → place < length rows
        → is_lt (by_refs (get_or rows k (ref 0 0)) (get_or rows place (ref 0 0))) ≡ false → rows ≡ refs_by keys s
        → AllDiffer keys (joined s) → ⊥
    shared rows k place next low no_less is =
        neighbours_share k (subst (λ l. suc k < length l) is (omega (arith, low, next)))
        (subst (λ l. is_lt (by_refs (get_or l k (ref 0 0)) (get_or l (suc k) (ref 0 0))) ≡ false) is
        (ap (λ n. is_lt (by_refs (get_or rows k (ref 0 0)) (get_or rows n (ref 0 0)))) next ∙ no_less))

  -- the keys of a row are none of those behind it
  abbrev IsAlone : List Meaning → List Meaning → Type 0
  IsAlone x y = is_eq (keys_cmp keys (row_keys keys x) (row_keys keys y)) ≡ false

  abbrev AreApart : List (List Meaning) → Type 0
  AreApart [] = Unit {0}
  AreApart (x ∷ xs) = AllByRecursion (IsAlone x) xs × AreApart xs

  alone : (x : List Meaning) (xs : List (List Meaning)) → ((k : ℕ) → k < length xs → IsAlone x (get_or xs k []))
      → AllByRecursion (IsAlone x) xs
  alone x [] each = tt
  alone x (y ∷ ys) each = (each 0 (omega arith), alone x ys (λ k h. each (suc k) (omega (arith, h))))

  never : (b : Bool) → (b ≡ true → ⊥) → b ≡ false
  never true h = absurd (h refl)
  never false h = refl

  apart : (rows : List (List Meaning)) → AllDiffer keys rows → AreApart rows
  apart [] differ = tt
  apart (x ∷ xs) differ = (
    alone x xs (λ k h. never (is_eq (keys_cmp keys (row_keys keys x) (keys_at keys xs k)))
        (λ e. let same : 0 ≡ suc k = differ 0 (suc k) (omega arith) (omega (arith, h)) e in omega (arith, same))),
    apart xs (λ i j p q e. let same : suc i ≡ suc j = differ (suc i) (suc j) (omega (arith, p)) (omega (arith, q)) e in
        omega (arith, same)),
  )

  there : (x : List Meaning) (xs : List (List Meaning)) → AllByRecursion (IsAlone x) xs → (k : ℕ) → k < length xs
      → IsAlone x (get_or xs k [])
  there x [] all k h = absurd (omega (arith, h))
  there x (y ∷ ys) all zero h = all.0
  there x (y ∷ ys) all (suc k) h = there x ys all.1 k (omega (arith, h))

  turned : (x y : List Meaning) → is_eq (keys_cmp keys x y) ≡ is_eq (keys_cmp keys y x)
  turned x y = ap is_eq ((keys_total keys).antisymm x y) ∙ same (keys_cmp keys y x)
    where
      same : (o : Ordering) → is_eq (ordering_reverse o) ≡ is_eq o
      same Less = refl
      same Equal = refl
      same Greater = refl

  differ : (rows : List (List Meaning)) → AreApart rows → AllDiffer keys rows
  differ [] all = λ i j p q e. absurd (omega (arith, p))
  differ (x ∷ xs) all = λ i j p q e. go (differ xs all.1) i j p q e
    where
      go : AllDiffer keys xs → (i j : ℕ) → i < length (x ∷ xs) → j < length (x ∷ xs)
          → is_eq (keys_cmp keys (keys_at keys (x ∷ xs) i) (keys_at keys (x ∷ xs) j)) ≡ true → i ≡ j
      go rest zero zero p q e = refl
      go rest zero (suc j) p q e = absurd (true≢false (sym e ∙ there x xs all.0 j (omega (arith, q))))
      go rest (suc i) zero p q e = absurd (true≢false (sym e ∙ turned (keys_at keys xs i) (row_keys keys x)
          ∙ there x xs all.0 i (omega (arith, p))))
      go rest (suc i) (suc j) p q e = ap suc (rest i j (omega (arith, p)) (omega (arith, q)) e)

  module _ (holds : List Meaning → Bool) where
    all_kept : (P : List Meaning → Type 0) (xs : List (List Meaning)) → AllByRecursion P xs → AllByRecursion P (filter holds xs)
    all_kept P [] all = tt
    all_kept P (x ∷ xs) all =
        elim (holds x) as (λ b. AllByRecursion P (cond b (x ∷ filter holds xs) (filter holds xs))) [
          | true ↦
              (all.0, all_kept P xs all.1)
          | false ↦ all_kept P xs all.1
        ]

    apart_kept : (xs : List (List Meaning)) → AreApart xs → AreApart (filter holds xs)
    apart_kept [] all = tt
    apart_kept (x ∷ xs) all =
        elim (holds x) as (λ b. AreApart (cond b (x ∷ filter holds xs) (filter holds xs))) [
          | true ↦
              (all_kept (IsAlone x) xs all.0, apart_kept xs all.1)
          | false ↦ apart_kept xs all.1
        ]

    -- so do those of them that are kept
    pub kept_differ : (rows : List (List Meaning)) → AllDiffer keys rows → AllDiffer keys (filter holds rows)
    kept_differ rows all = differ (filter holds rows) (apart_kept rows (apart rows all))
