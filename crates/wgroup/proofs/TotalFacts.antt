-- What lists add up to where the order of adding does not matter, and what parts of lists add up to.
use Rattle.std.proofs.Common.{◌≡◌, ◌≢◌, ℕ, zero, suc, ◌+◌, ◌<◌, ◌≤◌, ◌==◌, ◌⊎◌, inl, inr, Bool, true, false, cond, List}
use Rattle.std.proofs.Common.{[], ◌∷◌, length, map, filter, get_or, Ordering, is_gt, refl, sym, ap, ◌∙◌, arith}
use Rattle.std.specs.List.{AllByRecursion}
use Rattle.wframe.specs.Places.{places, places_from}
use Rattle.wframe.specs.Sorting.{inserted, sorted}
use Rattle.wgroup.proofs.LeaderFacts.{in_order}
use Rattle.wgroup.proofs.ListFacts.{at_places}
use Rattle.wgroup.proofs.NumberFacts.{are_apart, are_equal}

abbrev pub total : {M : Type 0} → M → (M → M → M) → (ℕ → M) → List ℕ → M
total none plus w [] = none
total none plus w (x ∷ xs) = plus (w x) (total none plus w xs)

module _ {M : Type 0} (none : M) (plus : M → M → M) (left : (x : M) → plus none x ≡ x) (comm : (x y : M)
    → plus x y ≡ plus y x) (assoc : (x y z : M) → plus (plus x y) z ≡ plus x (plus y z)) where
  abbrev sum : (ℕ → M) → List ℕ → M
  sum = total none plus

  masked : (q : ℕ → Bool) (w : ℕ → M) (xs : List ℕ) → sum w (filter q xs) ≡ sum (λ x. cond (q x) (w x) none) xs
  masked q w [] = refl
  masked q w (x ∷ xs) = go (q x) (masked q w xs)
    where
      go : (b : Bool) → sum w (filter q xs) ≡ sum (λ x. cond (q x) (w x) none) xs
          → sum w (cond b (x ∷ filter q xs) (filter q xs)) ≡ plus (cond b (w x) none) (sum (λ x. cond (q x) (w x) none) xs)
      go true e = ap (plus (w x)) e
      go false e = e ∙ sym (left (sum (λ x. cond (q x) (w x) none) xs))

  of_none : (xs : List ℕ) → sum (λ x. none) xs ≡ none
  of_none [] = refl
  of_none (x ∷ xs) = left (sum (λ x. none) xs) ∙ of_none xs

  pub of_same : (v w : ℕ → M) (xs : List ℕ) → AllByRecursion (λ x. v x ≡ w x) xs → sum v xs ≡ sum w xs
  of_same v w [] all = refl
  of_same v w (x ∷ xs) all = ap (λ a. plus a (sum v xs)) all.0 ∙ ap (plus (w x)) (of_same v w xs all.1)

  swapped : (a b c : M) → plus a (plus b c) ≡ plus b (plus a c)
  swapped a b c = sym (assoc a b c) ∙ ap (λ x. plus x c) (comm a b) ∙ assoc b a c

  of_both : (v w : ℕ → M) (xs : List ℕ) → sum (λ x. plus (v x) (w x)) xs ≡ plus (sum v xs) (sum w xs)
  of_both v w [] = sym (left none)
  of_both v w (x ∷ xs) =
      ap (plus (plus (v x) (w x))) (of_both v w xs) ∙ assoc (v x) (w x) (plus (sum v xs) (sum w xs))
      ∙ ap (plus (v x)) (swapped (w x) (sum v xs) (sum w xs))
      ∙ sym (assoc (v x) (sum v xs) (plus (w x) (sum w xs)))

  of_mapped : (w : ℕ → M) (f : ℕ → ℕ) (xs : List ℕ) → sum w (map f xs) ≡ sum (λ x. w (f x)) xs
  of_mapped w f [] = refl
  of_mapped w f (x ∷ xs) = ap (plus (w (f x))) (of_mapped w f xs)

  -- the places of those of a list that pass
  pub of_places : (q : ℕ → Bool) (w : ℕ → M) (xs : List ℕ)
      → sum (λ j. w (get_or xs j 0)) (filter (λ j. q (get_or xs j 0)) (places (length xs))) ≡ sum w (filter q xs)
  of_places q w xs =
      masked (λ j. q (get_or xs j 0)) (λ j. w (get_or xs j 0)) (places (length xs))
      ∙ sym (of_mapped (λ x. cond (q x) (w x) none) (λ j. get_or xs j 0) (places (length xs)))
      ∙ ap (sum (λ x. cond (q x) (w x) none)) (at_places xs 0) ∙ sym (masked q w xs)

  of_inserted : (cmp : ℕ → ℕ → Ordering) (w : ℕ → M) (x : ℕ) (xs : List ℕ) → sum w (inserted cmp x xs) ≡ plus (w x) (sum w xs)
  of_inserted cmp w x [] = refl
  of_inserted cmp w x (y ∷ ys) = go (is_gt (cmp x y)) (of_inserted cmp w x ys)
    where
      go : (b : Bool) → sum w (inserted cmp x ys) ≡ plus (w x) (sum w ys)
          → sum w (cond b (y ∷ inserted cmp x ys) (x ∷ y ∷ ys)) ≡ plus (w x) (plus (w y) (sum w ys))
      go true e = ap (plus (w y)) e ∙ swapped (w y) (w x) (sum w ys)
      go false e = refl

  pub of_sorted : (cmp : ℕ → ℕ → Ordering) (w : ℕ → M) (xs : List ℕ) → sum w (sorted cmp xs) ≡ sum w xs
  of_sorted cmp w [] = refl
  of_sorted cmp w (x ∷ xs) = of_inserted cmp w x (sorted cmp xs) ∙ ap (plus (w x)) (of_sorted cmp w xs)

  -- one number among places
  module _ (q : ℕ → Bool) (k : ℕ) (w : M) where
    abbrev here : ℕ → M
    here f = cond (q f) (cond (k == f) w none) none

    nothing : (b : Bool) → cond b none none ≡ none
    nothing true = refl
    nothing false = refl

    apart : (f : ℕ) → k ≢ f → here f ≡ none
    apart f d = ap (λ b. cond (q f) (cond b w none) none) (are_apart k f d) ∙ nothing (q f)

    behind : (a n : ℕ) → k < a → sum here (places_from a n) ≡ none
    behind a zero h = refl
    behind a (suc n) h =
        ap (λ x. plus x (sum here (places_from (a + 1) n))) (apart a (λ e. omega (arith, h, e)))
        ∙ left (sum here (places_from (a + 1) n)) ∙ behind (a + 1) n (omega (arith, h))

    of_one : (a n : ℕ) → a ≤ k → k < a + n → sum here (places_from a n) ≡ cond (q k) w none
    of_one a zero h l = absurd (omega (arith, h, l))
    of_one a (suc n) h l = go (in_order a k) (λ m. of_one (a + 1) n (omega (arith, m)) (omega (arith, l)))
      where
        go : (a < k) ⊎ ((a ≡ k) ⊎ (k < a)) → (a < k → sum here (places_from (a + 1) n) ≡ cond (q k) w none)
            → plus (here a) (sum here (places_from (a + 1) n)) ≡ cond (q k) w none
        go (inl m) more = ap (λ x. plus x (sum here (places_from (a + 1) n))) (apart a (λ e. omega (arith, m, e)))
            ∙ left (sum here (places_from (a + 1) n)) ∙ more m
        go (inr (inl e)) more =
            ap (plus (here a)) (behind (a + 1) n (omega (arith, e))) ∙ comm (here a) none ∙ left (here a)
            ∙ ap (λ b. cond (q a) (cond b w none) none) (are_equal k a (sym e)) ∙ ap (λ f. cond (q f) w none) e
        go (inr (inr m)) more = absurd (omega (arith, m, h))

  -- parts of a list add up to what the list does
  of_parts : (q : ℕ → Bool) (number : ℕ → ℕ) (w : ℕ → M) (m : ℕ) (rows : List ℕ) → AllByRecursion (λ r. number r < m) rows
      → sum (λ f. sum w (filter (λ r. number r == f) rows)) (filter q (places m)) ≡ sum w (filter (λ r. q (number r)) rows)
  of_parts q number w m [] all = of_none (filter q (places m))
  of_parts q number w m (r ∷ rows) all =
      of_same (λ f. sum w (filter (λ r. number r == f) (r ∷ rows))) (λ f. plus (cond (number r == f) (w r) none)
      (sum w (filter (λ r. number r == f) rows))) (filter q (places m)) (each (filter q (places m)))
      ∙ of_both (λ f. cond (number r == f) (w r) none) (λ f. sum w (filter (λ r. number r == f) rows)) (filter q (places m))
      ∙ ap (λ x. plus x (sum (λ f. sum w (filter (λ r. number r == f) rows)) (filter q (places m))))
      (masked q (λ f. cond (number r == f) (w r) none) (places m) ∙ of_one q (number r) (w r) 0 m (omega arith) (let l =
      all.0 in omega (arith, l)))
      ∙ ap (plus (cond (q (number r)) (w r) none)) (of_parts q number w m rows all.1)
      ∙ sym (first (q (number r)) (filter (λ r. q (number r)) rows))
    where
      first : (b : Bool) (others : List ℕ) → sum w (cond b (r ∷ others) others) ≡ plus (cond b (w r) none) (sum w others)
      first true others = refl
      first false others = sym (left (sum w others))

      each : (fs : List ℕ) → AllByRecursion (λ f. sum w (filter (λ r. number r == f) (r ∷ rows))
          ≡ plus (cond (number r == f) (w r) none) (sum w (filter (λ r. number r == f) rows))) fs
      each [] = tt
      each (f ∷ fs) = (first (number r == f) (filter (λ r. number r == f) rows), each fs)

  -- the same, with the parts in any order of keys
  pub of_parts_in_order : (cmp : ℕ → ℕ → Ordering) (q : ℕ → Bool) (number : ℕ → ℕ) (w : ℕ → M) (m : ℕ) (rows order : List ℕ)
      → AllByRecursion (λ r. number r < m) rows → order ≡ sorted cmp (places m)
      → sum (λ f. sum w (filter (λ r. number r == f) rows)) (filter q order) ≡ sum w (filter (λ r. q (number r)) rows)
  of_parts_in_order cmp q number w m rows order all e =
      let part : ℕ → M = λ f. sum w (filter (λ r. number r == f) rows) in
      masked q part order ∙ ap (sum (λ f. cond (q f) (part f) none)) e ∙ of_sorted cmp (λ f. cond (q f) (part f) none) (places m)
      ∙ sym (masked q part (places m)) ∙ of_parts q number w m rows all
