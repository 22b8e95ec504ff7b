-- Rows and points that rise make cuts.
use Rattle.std.proofs.Common.{◌≡◌, ℕ, ◌+◌, ◌-◌, ◌<◌, ◌≤◌, Bool, true, false, not, List, [], ◌∷◌, length}
use Rattle.std.proofs.Common.{get_or, sym, ap, ◌∙◌, refl, arith, subst, inl, inr, ◌⊎◌, ◌++◌}
use Rattle.std.specs.Ordering.{is_lt, is_gt}
use Rattle.std.specs.Cmp.{IsTotalOrder}
use Rattle.std.specs.declared.cmp.Ordering.{Ordering}
use Rattle.std.specs.declared.cmp.Ordering.TheVariants.{Less, Equal, Greater}
use Rattle.std.proofs.lemmas.Cmp.{alike_right}
use Rattle.std.proofs.lemmas.Bool.{cases_lt}
use Rattle.std.proofs.lemmas.List.{get_or_push, get_or_append_left, length_push}
use borrow.Author.Count.{below_more}
use Rattle.wframe.specs.Cuts.{IsCut, CutsAt, CutsFrom, BeginsWith}

pub lt_is_less : (o : Ordering) → is_lt o ≡ true → o ≡ Less
lt_is_less Less h = refl
lt_is_less Equal h = cc
lt_is_less Greater h = cc

module _ {K : Type 0} {R : K → K → Ordering} (o : IsTotalOrder R) where
  lt_upto_by : (a b c : K) (r : Ordering) → r ≡ R b c → R a b ≡ Less → is_gt r ≡ false → R a c ≡ Less
  lt_upto_by a b c Less e h g = o.trans a b c h (sym e)
  lt_upto_by a b c Equal e h g = sym (alike_right o b c a (sym e)) ∙ h
  lt_upto_by a b c Greater e h g = cc

  upto_lt_by : (a b c : K) (r : Ordering) → r ≡ R a b → is_gt r ≡ false → R b c ≡ Less → R a c ≡ Less
  upto_lt_by a b c Less e g h = o.trans a b c (sym e) h
  upto_lt_by a b c Equal e g h = o.congr a b c (sym e) ∙ h
  upto_lt_by a b c Greater e g h = cc

  pub lt_upto : (a b c : K) → is_lt (R a b) ≡ true → is_gt (R b c) ≡ false → is_lt (R a c) ≡ true
  lt_upto a b c h g = ap is_lt (lt_upto_by a b c (R b c) refl (lt_is_less (R a b) h) g)

  pub upto_lt : (a b c : K) → is_gt (R a b) ≡ false → is_lt (R b c) ≡ true → is_lt (R a c) ≡ true
  upto_lt a b c g h = ap is_lt (upto_lt_by a b c (R a b) refl g (lt_is_less (R b c) h))

-- what a rank of the rows rises by
abbrev pub Rises : {K : Type 0} → (K → K → Ordering) → ℕ → (ℕ → K) → Type 0
Rises R n p = (i j : ℕ) → i ≤ j → j < n → is_gt (R (p i) (p j)) ≡ false

-- a test that holds of the one only where it holds of the other
not_not : (b c : Bool) → (c ≡ true → b ≡ true) → not b ≡ true → not c ≡ true
not_not true c h e = cc
not_not false true h e = let f : false ≡ true = h refl in cc
not_not false false h e = refl

module _ {K : Type 0} {R : K → K → Ordering} (o : IsTotalOrder R) (n : ℕ) (row point : ℕ → K) (rows : Rises R n row)
    (points : Rises R n point) where
  -- the rows before a point
  pub start_cut : IsCut n (λ i j. is_lt (R (row j) (point i)))
  start_cut = record {
    down = λ i j k hi l hk h. upto_lt o (row j) (row k) (point i) (rows j k l hk) h;
    rises = λ i k j l hk hj h. lt_upto o (row j) (point i) (point k) h (points i k l hk);
  }

  -- the rows up to a point
  pub end_cut : IsCut n (λ i j. not (is_lt (R (point i) (row j))))
  end_cut = record {
    down = λ i j k hi l hk h. not_not (is_lt (R (point i) (row k))) (is_lt (R (point i) (row j)))
        (λ e. lt_upto o (point i) (row j) (row k) e (rows j k l hk)) h;
    rises = λ i k j l hk hj h. not_not (is_lt (R (point i) (row j))) (is_lt (R (point k) (row j)))
        (λ e. upto_lt o (point i) (point k) (row j) (points i k l hk) e) h;
  }

-- a test that passes no place, and one that passes all
pub no_cut : (n : ℕ) → IsCut n (λ i j. false)
no_cut n = record { down = λ i j k hi l hk h. h; rises = λ i k j l hk hj h. h }

pub whole_cut : (n : ℕ) → IsCut n (λ i j. true)
whole_cut n = record { down = λ i j k hi l hk h. h; rises = λ i k j l hk hj h. h }

-- the first place that fails ends what passes
pub cut_found : (n : ℕ) (passes : ℕ → ℕ → Bool) (i c : ℕ) → IsCut n passes → i < n → c < n
    → ((j : ℕ) → j < c → passes i j ≡ true) → passes i c ≡ false → CutsAt n (passes i) c
cut_found n passes i c cut hi hc before here = record {
  within = omega arith;
  passed = before;
  others = λ j l hj. later (passes i j) refl l hj;
}
  where
    later : {j : ℕ} (b : Bool) → b ≡ passes i j → c ≤ j → j < n → passes i j ≡ false
    later true e l hj = let h : true ≡ false = sym (cut.down i c _ hi l hj (sym e)) ∙ here in cc
    later false e l hj = sym e

-- tests that agree have the same cut
pub cut_same : (n : ℕ) (p q : ℕ → Bool) (c : ℕ) → ((j : ℕ) → p j ≡ q j) → CutsAt n p c → CutsAt n q c
cut_same n p q c e at = record {
  within = at.within;
  passed = λ j l. sym (e j) ∙ at.passed j l;
  others =
      λ j l h. sym (e j) ∙ at.others j l h;
}

-- what passes for a row passes for the next
pub cut_next : (n : ℕ) (passes : ℕ → ℕ → Bool) (i c : ℕ) → IsCut n passes → CutsAt n (passes i) c → (j : ℕ) → j < c
    → i + 1 < n → passes (i + 1) j ≡ true
cut_next n passes i c cut at j hj hi = cut.rises i (i + 1) j (omega arith) hi (omega (arith, at.within)) (at.passed j hj)

-- neither end goes back
pub cuts_rise : (n : ℕ) (passes : ℕ → ℕ → Bool) (i k c d : ℕ) → IsCut n passes → i ≤ k → k < n → CutsAt n (passes i) c
    → CutsAt n (passes k) d → c ≤ d
cuts_rise n passes i k c d cut l hk at to = by_cases (cases_lt d c)
  where
    by_cases : (d < c) ⊎ (c ≤ d) → c ≤ d
    by_cases (inl h) =
        let hd : d < n = omega (arith, at.within) in
        let e : true ≡ false = sym (cut.rises i k d l hk hd (at.passed d h)) ∙ to.others d (omega arith) hd in
        cc
    by_cases (inr h) = h

-- a list with one more
pub more : (xs ys : List ℕ) (x : ℕ) → ys ≡ xs ++ x ∷ [] → (k : ℕ) → k < length xs → get_or ys k 0 ≡ get_or xs k 0
more xs ys x e k h = ap (λ zs. get_or zs k 0) e ∙ get_or_append_left xs (x ∷ []) 0 k h

pub last_more : (xs ys : List ℕ) (i x : ℕ) → ys ≡ xs ++ x ∷ [] → length xs ≡ i → get_or ys i 0 ≡ x
last_more xs ys i x e n = ap (λ zs. get_or zs i 0) e ∙ get_or_push xs x 0 i n

pub long_more : (xs ys : List ℕ) (i x : ℕ) → ys ≡ xs ++ x ∷ [] → length xs ≡ i → length ys ≡ i + 1
long_more xs ys i x e n = ap length e ∙ length_push xs x ∙ ap (λ m. m + 1) n

-- a fact on each number of a list from one place on, and on one more
pub each_more : (P : ℕ → ℕ → Type 0) (xs ys : List ℕ) (first i x : ℕ) → ys ≡ xs ++ x ∷ [] → length xs ≡ first + i
    → ((k : ℕ) → k < i → P k (get_or xs (first + k) 0)) → P i x → (k : ℕ) → k < i + 1 → P k (get_or ys (first + k) 0)
each_more P xs ys first i x e n each here =
    below_more (λ k. P k (get_or ys (first + k) 0)) i
    (λ k h. let l : first + k < length xs = omega arith in subst (P k) (sym (more xs ys x e (first + k) l)) (each k h))
    (subst (P i) (sym (last_more xs ys (first + i) x e n)) here)

-- numbers of the rows so far, and one more
pub numbers_more : (at : ℕ → ℕ) (xs ys : List ℕ) (i x : ℕ) → ys ≡ xs ++ x ∷ [] → length xs ≡ i
    → ((k : ℕ) → k < i → get_or xs k 0 ≡ at k) → x ≡ at i → (k : ℕ) → k < i + 1 → get_or ys k 0 ≡ at k
numbers_more at xs ys i x e n each here =
    below_more (λ k. get_or ys k 0 ≡ at k) i
    (λ k h. let l : k < length xs = omega arith in more xs ys x e k l ∙ each k h)
    (last_more xs ys i x e n ∙ here)

pub front_more : (old xs ys : List ℕ) (x : ℕ) → ys ≡ xs ++ x ∷ [] → BeginsWith old xs → BeginsWith old ys
front_more old xs ys x e b = record {
  same = λ i h. let l : i < length xs = omega (arith, b.long) in more xs ys x e i l ∙ b.same i h;
  long = omega (arith, b.long, ap length e, length_push xs x);
}

-- a place counted on from another one
pub cut_from : (first n : ℕ) (test : ℕ → Bool) (c : ℕ) → CutsAt n test c → CutsFrom first n test (first + c)
cut_from first n test c at =
    let e : c ≡ first + c - first = omega arith in
    record { from = omega arith; at = subst (CutsAt n test) e at }
