-- Rows of which each may stand before the next are in order.
use Rattle.std.proofs.Common.{◌≡◌, ℕ, zero, suc, ◌+◌, ◌-◌, ◌<◌, Bool, true, false, not, List, length, sym, ap, ◌∙◌, refl, arith}
use Rattle.std.specs.Ordering.{is_lt, is_gt, is_eq}
use Rattle.std.specs.Cmp.{IsTotalOrder}
use Rattle.std.specs.declared.cmp.Ordering.{Ordering}
use Rattle.std.specs.declared.cmp.Ordering.TheVariants.{Less, Equal, Greater}
use Rattle.std.proofs.lemmas.Cmp.{tied_itself, alike_right}
use Rattle.wvalues.specs.Meaning.{Meaning}
use Rattle.wframe.specs.Peers.{key_at, are_peers, AreOrdered, AreOrderedWithin}
use Rattle.wframe.specs.Steps.{allows, is_step}
use Rattle.wframe.proofs.CutFacts.{upto_lt}
use Rattle.wframe.proofs.OrderFacts.{gt_is_lt}

equal_from : (r : Ordering) → is_eq r ≡ true → r ≡ Equal
equal_from Less h = cc
equal_from Equal h = refl
equal_from Greater h = cc

not_not_gt : (r : Ordering) → not (is_gt r) ≡ true → is_gt r ≡ false
not_not_gt Less h = refl
not_not_gt Equal h = refl
not_not_gt Greater h = cc

allowed_gt : (r : Ordering) (b : Bool) → allows r b ≡ true → is_gt r ≡ false
allowed_gt Less b h = refl
allowed_gt Equal b h = refl
allowed_gt Greater b h = cc

allowed_equal : (r : Ordering) (b : Bool) → allows r b ≡ true → is_eq r ≡ true → b ≡ true
allowed_equal Less b h e = cc
allowed_equal Equal b h e = h
allowed_equal Greater b h e = cc

both_allow : (r : Ordering) (b : Bool) → is_gt r ≡ false → (is_eq r ≡ true → b ≡ true) → allows r b ≡ true
both_allow Less b g h = refl
both_allow Equal b g h = h refl
both_allow Greater b g h = cc

module _ {K : Type 0} {R : K → K → Ordering} (o : IsTotalOrder R) where
  -- what is no greater is so along
  by_second : (a b c : K) (r : Ordering) → r ≡ R b c → is_gt (R a b) ≡ false → is_gt r ≡ false → is_gt (R a c) ≡ false
  by_second a b c Less e h g = gt_lt (R a c) (upto_lt o a b c h (ap is_lt (sym e)))
    where
      gt_lt : (s : Ordering) → is_lt s ≡ true → is_gt s ≡ false
      gt_lt Less h = refl
      gt_lt Equal h = cc
      gt_lt Greater h = cc
  by_second a b c Equal e h g = ap is_gt (sym (alike_right o b c a (sym e))) ∙ h
  by_second a b c Greater e h g = cc

  pub upto_upto : (a b c : K) → is_gt (R a b) ≡ false → is_gt (R b c) ≡ false → is_gt (R a c) ≡ false
  upto_upto a b c h g = by_second a b c (R b c) refl h g

  -- what lies between equals is equal to both
  squeezed : (a b c : K) → is_gt (R a b) ≡ false → is_gt (R b c) ≡ false → is_eq (R a c) ≡ true → is_eq (R a b) ≡ true
  squeezed a b c h g e = by_first (R a b) refl h
    where
      no_less : is_lt (R b a) ≡ false
      no_less = sym (gt_is_lt o a b) ∙ h

      back : is_gt (R b a) ≡ false
      back = ap is_gt (alike_right o a c b (equal_from (R a c) e)) ∙ g

      by_first : (r : Ordering) → r ≡ R a b → is_gt r ≡ false → is_eq (R a b) ≡ true
      by_first Less d k = let f : true ≡ false = ap is_lt d ∙ sym (gt_is_lt o b a) ∙ back in cc
      by_first Equal d k = ap is_eq (sym d)
      by_first Greater d k = cc

module _ {V R : List Meaning → List Meaning → Ordering} (ov : IsTotalOrder V) (o : IsTotalOrder R) (values keys : List (List Meaning)) where
  in_order_far : (n : ℕ) → ((i : ℕ) → i + 1 < n → is_gt (V (key_at values i) (key_at values (i + 1))) ≡ false) → (i d : ℕ)
      → i + d < n → is_gt (V (key_at values i) (key_at values (i + d))) ≡ false
  in_order_far n steps i zero h = let e : i ≡ i + 0 = omega arith in ap (λ j. is_gt (V (key_at values i) (key_at values j)))
      (sym e) ∙ ap is_gt (tied_itself ov (key_at values i))
  in_order_far n steps i (suc d) h =
      let e : i + d + 1 ≡ i + suc d = omega arith in
      let l : i + d < n = omega arith in
      ap (λ j. is_gt (V (key_at values i) (key_at values j))) (sym e)
      ∙ upto_upto ov (key_at values i) (key_at values (i + d)) (key_at values (i + d + 1)) (in_order_far n steps i d l)
      (steps (i + d) (omega arith))

  pub in_order : ((i : ℕ) → i + 1 < length values → is_step V values R keys i ≡ true) → AreOrdered V values
  in_order steps i j l h =
      let e : i + (j - i) ≡ j = omega arith in
      ap (λ k. is_gt (V (key_at values i) (key_at values k))) (sym e)
      ∙ in_order_far (length values) (λ k g. allowed_gt (V (key_at values k) (key_at values (k + 1))) _ (steps k g)) i (j - i) (omega arith)

  within_far : (n : ℕ) → length values ≡ n → AreOrdered V values → ((i : ℕ) → i + 1 < n → is_step V values R keys i ≡ true)
      → (i d : ℕ) → i + d < n → are_peers V values i (i + d) ≡ true → is_gt (R (key_at keys i) (key_at keys (i + d))) ≡ false
  within_far n long ordered steps i zero h p = let e : i ≡ i + 0 = omega arith in
      ap (λ j. is_gt (R (key_at keys i) (key_at keys j))) (sym e) ∙ ap is_gt (tied_itself o (key_at keys i))
  within_far n long ordered steps i (suc d) h p =
      let e : i + d + 1 ≡ i + suc d = omega arith in
      let l : i + d < n = omega arith in
      let m : i + d + 1 < n = omega arith in
      let q : are_peers V values i (i + d + 1) ≡ true = ap (are_peers V values i) e ∙ p in
      let a = ordered i (i + d) (omega arith) (omega arith) in
      let b = ordered (i + d) (i + d + 1) (omega arith) (omega arith) in
      let near = squeezed ov (key_at values i) (key_at values (i + d)) (key_at values (i + d + 1)) a b q in
      let last : is_eq (V (key_at values (i + d)) (key_at values (i + d + 1))) ≡ true =
      ap is_eq (sym (ov.congr (key_at values i) (key_at values (i + d)) (key_at values (i + d + 1))
      (equal_from (V (key_at values i) (key_at values (i + d))) near))) ∙ q in
      let here = not_not_gt (R (key_at keys (i + d)) (key_at keys (i + d + 1)))
      (allowed_equal (V (key_at values (i + d)) (key_at values (i + d + 1))) _ (steps (i + d) m) last) in
      ap (λ j. is_gt (R (key_at keys i) (key_at keys j))) (sym e)
      ∙ upto_upto o (key_at keys i) (key_at keys (i + d)) (key_at keys (i + d + 1)) (within_far n long ordered steps i d l near) here

  pub in_order_within : length values ≡ length keys → ((i : ℕ) → i + 1 < length values → is_step V values R keys i ≡ true)
      → AreOrderedWithin V values R keys
  in_order_within long steps i j l h p =
      let e : i + (j - i) ≡ j = omega arith in
      ap (λ k. is_gt (R (key_at keys i) (key_at keys k))) (sym e)
      ∙ within_far (length values) refl (in_order steps) steps i (j - i) (omega arith) (ap (are_peers V values i) e ∙ p)

  -- and the other way round
  pub step_in_order : AreOrdered V values → AreOrderedWithin V values R keys → length values ≡ length keys → (i : ℕ)
      → i + 1 < length values → is_step V values R keys i ≡ true
  step_in_order ordered within long i h =
      both_allow (V (key_at values i) (key_at values (i + 1))) (not (is_gt (R (key_at keys i) (key_at keys (i + 1)))))
      (ordered i (i + 1) (omega arith) h)
      (λ p. ap not (within i (i + 1) (omega arith) (omega arith) p))
