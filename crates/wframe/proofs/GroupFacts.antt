-- The number of a peer group is one more than that of the group before it.
use Rattle.std.proofs.Common.{◌≡◌, ℕ, zero, suc, ◌+◌, ◌<◌, Bool, true, false, cond, ◌||◌}
use Rattle.std.proofs.Common.{List, [], ◌∷◌, length, get_or, sym, ap, ◌∙◌, refl, arith}
use Rattle.std.specs.Prelude.{filter}
use Rattle.std.specs.List.{list_any, AllByRecursion}
use Rattle.std.specs.Ordering.{is_lt, is_eq}
use Rattle.std.specs.Cmp.{IsTotalOrder}
use Rattle.std.specs.declared.cmp.Ordering.{Ordering}
use Rattle.std.specs.declared.cmp.Ordering.TheVariants.{Less, Equal, Greater}
use Rattle.std.proofs.lemmas.Cmp.{eq_by_cmp_equiv}
use Rattle.wframe.specs.Peers.{distinct}

module _ {K : Type 0} {R : K → K → Ordering} (o : IsTotalOrder R) where
  -- a test that tells no two equals apart
  abbrev KeepsEquals : (K → Bool) → Type 0
  KeepsEquals p = (x y : K) → is_eq (R x y) ≡ true → p x ≡ p y

  -- among equals of x a filter keeps all or none
  any_filtered : (p : K → Bool) (x : K) (xs : List K) → KeepsEquals p → p x ≡ true
      → list_any (λ y. is_eq (R x y)) (filter p xs) ≡ list_any (λ y. is_eq (R x y)) xs
  any_filtered p x [] keeps h = refl
  any_filtered p x (y ∷ ys) keeps h = by_kept (p y) refl (is_eq (R x y)) refl (any_filtered p x ys keeps h)
    where
      by_kept : (b : Bool) → b ≡ p y → (e : Bool) → e ≡ is_eq (R x y) → list_any (λ z. is_eq (R x z)) (filter p ys)
          ≡ list_any (λ z. is_eq (R x z)) ys → list_any (λ z. is_eq (R x z)) (cond (p y) (y ∷ filter p ys) (filter p ys))
          ≡ (is_eq (R x y) || list_any (λ z. is_eq (R x z)) ys)
      by_kept true q e t rest = rw (← q) (ap (λ b. is_eq (R x y) || b) rest)
      by_kept false q true t rest = let f : false ≡ true = q ∙ sym (keeps x y (sym t)) ∙ h in cc
      by_kept false q false t rest = rw (← q, ← t) rest

  abbrev count : (K → Bool) → List K → ℕ
  count p xs = length (distinct R (filter p xs))

  count_skip : (p : K → Bool) (x : K) (xs : List K) → p x ≡ false → count p (x ∷ xs) ≡ count p xs
  count_skip p x xs h = ap (λ b. length (distinct R (cond b (x ∷ filter p xs) (filter p xs)))) h

  length-cond : (b : Bool) (x : K) (ys : List K) → length (cond b ys (x ∷ ys)) ≡ cond b (length ys) (suc (length ys))
  length-cond true x ys = refl
  length-cond false x ys = refl

  count_take : (p : K → Bool) (x : K) (xs : List K) → KeepsEquals p → p x ≡ true
      → count p (x ∷ xs) ≡ cond (list_any (λ y. is_eq (R x y)) xs) (count p xs) (suc (count p xs))
  count_take p x xs keeps h =
      ap (λ b. length (distinct R (cond b (x ∷ filter p xs) (filter p xs)))) h
      ∙ ap (λ b. length (cond b (distinct R (filter p xs)) (x ∷ distinct R (filter p xs)))) (any_filtered p x xs keeps h)
      ∙ length-cond (list_any (λ y. is_eq (R x y)) xs) x (distinct R (filter p xs))

  eq_is_equal : (r : Ordering) → is_eq r ≡ true → r ≡ Equal
  eq_is_equal Less h = cc
  eq_is_equal Equal h = refl
  eq_is_equal Greater h = cc

  below_keeps : (k : K) → KeepsEquals (λ x. is_lt (R x k))
  below_keeps k x y h = ap is_lt (o.congr x y k (eq_is_equal (R x y) h))

  -- an equal of k has the same equals
  same_equals : (k x y : K) → R x k ≡ Equal → is_eq (R x y) ≡ is_eq (R y k)
  same_equals k x y h = ap is_eq (o.congr x k y h) ∙ (eq_by_cmp_equiv o).symm k y

  any_agree : (p q : K → Bool) → ((x : K) → p x ≡ q x) → (xs : List K) → list_any p xs ≡ list_any q xs
  any_agree p q same [] = refl
  any_agree p q same (x ∷ xs) = rw (same x) (ap (λ b. q x || b) (any_agree p q same xs))

  -- k' is the next key: what is below it is below k or equal to it
  abbrev IsNextOf : K → K → List K → Type 0
  IsNextOf k k' xs = AllByRecursion (λ x. is_lt (R x k') ≡ (is_lt (R x k) || is_eq (R x k))) xs

  one_more : (b : Bool) (m n : ℕ) → m ≡ n + cond b 1 0 → cond b m (suc m) ≡ n + 1
  one_more true m n h = h
  one_more false m n h = omega (arith, h)

  both_more : (b c : Bool) (m n : ℕ) → m ≡ n + cond c 1 0 → cond b m (suc m) ≡ cond b n (suc n) + cond c 1 0
  both_more true c m n h = h
  both_more false c m n h = omega (arith, h)

  pub next_count : (k k' : K) (xs : List K) → IsNextOf k k' xs → count (λ x. is_lt (R x k')) xs ≡ count (λ x. is_lt (R x k))
      xs + cond (list_any (λ x. is_eq (R x k)) xs) 1 0
  next_count k k' [] h = refl
  next_count k k' (x ∷ xs) h = by_order (R x k) refl (next_count k k' xs h.1)
    where
      below : K → Bool
      below y = is_lt (R y k)

      by_order : (r : Ordering) → r ≡ R x k → count (λ y. is_lt (R y k')) xs ≡ count (λ y. is_lt (R y k)) xs + cond
          (list_any (λ y. is_eq (R y k)) xs) 1 0 → count (λ y. is_lt (R y k')) (x ∷ xs) ≡ count (λ y. is_lt (R y k))
          (x ∷ xs) + cond (list_any (λ y. is_eq (R y k)) (x ∷ xs)) 1 0
      by_order Less e rest =
          let here : is_lt (R x k) ≡ true = ap is_lt (sym e) in
          let not_eq : is_eq (R x k) ≡ false = ap is_eq (sym e) in
          let there : is_lt (R x k') ≡ true = h.0 ∙ ap (λ b. b || is_eq (R x k)) here in
          count_take (λ y. is_lt (R y k')) x xs (below_keeps k') there
          ∙ both_more (list_any (λ y. is_eq (R x y)) xs) (list_any (λ y. is_eq (R y k)) xs) _ _ rest
          ∙ ap (λ n. n + cond (list_any (λ y. is_eq (R y k)) xs) 1 0) (sym (count_take (λ y. is_lt (R y k)) x xs (below_keeps k) here))
          ∙ ap (λ b. count (λ y. is_lt (R y k)) (x ∷ xs) + cond (b || list_any (λ y. is_eq (R y k)) xs) 1 0) (sym not_eq)
      by_order Equal e rest =
          let here : is_lt (R x k) ≡ false = ap is_lt (sym e) in
          let equal : is_eq (R x k) ≡ true = ap is_eq (sym e) in
          let there : is_lt (R x k') ≡ true = h.0 ∙ ap (λ b. b || is_eq (R x k)) here ∙ equal in
          count_take (λ y. is_lt (R y k')) x xs (below_keeps k') there
          ∙ ap (λ b. cond b (count (λ y. is_lt (R y k')) xs) (suc (count (λ y. is_lt (R y k')) xs)))
          (any_agree (λ y. is_eq (R x y)) (λ y. is_eq (R y k)) (λ y. same_equals k x y (sym e)) xs)
          ∙ one_more (list_any (λ y. is_eq (R y k)) xs) _ _ rest
          ∙ ap (λ n. n + 1) (sym (count_skip (λ y. is_lt (R y k)) x xs here))
          ∙ ap (λ b. count (λ y. is_lt (R y k)) (x ∷ xs) + cond (b || list_any (λ y. is_eq (R y k)) xs) 1 0) (sym equal)
      by_order Greater e rest =
          let here : is_lt (R x k) ≡ false = ap is_lt (sym e) in
          let not_eq : is_eq (R x k) ≡ false = ap is_eq (sym e) in
          let there : is_lt (R x k') ≡ false = h.0 ∙ ap (λ b. b || is_eq (R x k)) here ∙ not_eq in
          count_skip (λ y. is_lt (R y k')) x xs there
          ∙ rest
          ∙ ap (λ n. n + cond (list_any (λ y. is_eq (R y k)) xs) 1 0) (sym (count_skip (λ y. is_lt (R y k)) x xs here))
          ∙ ap (λ b. count (λ y. is_lt (R y k)) (x ∷ xs) + cond (b || list_any (λ y. is_eq (R y k)) xs) 1 0) (sym not_eq)

pub any_at : {K : Type 0} (test : K → Bool) (xs : List K) (i : ℕ) (d : K) → i < length xs → test (get_or xs i d) ≡ true
    → list_any test xs ≡ true
any_at test [] i d l h = absurd (omega arith)
any_at test (x ∷ xs) zero d l h = ap (λ b. b || list_any test xs) h
any_at test (x ∷ xs) (suc i) d l h = let k : i < length xs = omega arith in rw (any_at test xs i d k h) (or_true (test x))
  where
    or_true : (b : Bool) → (b || true) ≡ true
    or_true true = refl
    or_true false = refl

pub filter_nothing : {K : Type 0} (test : K → Bool) (xs : List K) → AllByRecursion (λ x. test x ≡ false) xs → filter test xs ≡ []
filter_nothing test [] h = refl
filter_nothing test (x ∷ xs) h = ap (λ b. cond b (x ∷ filter test xs) (filter test xs)) h.0 ∙ filter_nothing test xs h.1
