-- Group numbers along ordered rows.
use Rattle.std.proofs.Common.{◌≡◌, ◌≢◌, ℕ, ◌+◌, ◌-◌, ◌<◌, ◌≤◌, true, false, cond, ◌||◌, List}
use Rattle.std.proofs.Common.{[], length, sym, ap, ◌∙◌, refl, arith, subst, inl, inr, ◌⊎◌}
use Rattle.std.specs.Ordering.{is_lt, is_gt, is_eq}
use Rattle.std.specs.Cmp.{IsTotalOrder}
use Rattle.std.specs.declared.cmp.Ordering.{Ordering}
use Rattle.std.specs.declared.cmp.Ordering.TheVariants.{Less, Equal, Greater}
use Rattle.std.proofs.lemmas.Cmp.{alike_right, tied_itself}
use Rattle.std.proofs.lemmas.Bool.{cases_lt}
use Rattle.std.proofs.lemmas.List.{get_or_default}
use Rattle.std.proofs.lemmas.List.Elements.{recursion_from_All, filter_agree}
use Rattle.wvalues.specs.Meaning.{Meaning}
use Rattle.wframe.specs.Peers.{key_at, group_number, distinct, AreOrdered}
use Rattle.wframe.proofs.CutFacts.{lt_upto, upto_lt}
use Rattle.wframe.proofs.GroupFacts.{next_count, any_at, filter_nothing}
use Rattle.wframe.proofs.OrderFacts.{gt_is_lt}

between_or : (r : Ordering) → is_gt r ≡ false → (is_lt r || is_eq r) ≡ true
between_or Less h = refl
between_or Equal h = refl
between_or Greater h = sym h

above_or : (r : Ordering) → is_gt r ≡ true → (is_lt r || is_eq r) ≡ false
above_or Less h = sym h
above_or Equal h = sym h
above_or Greater h = refl

not_gt_not_lt : (r s : Ordering) → is_gt r ≡ is_lt s → is_gt r ≡ false → is_lt s ≡ false
not_gt_not_lt r s e h = sym e ∙ h

pub eq_equal : (r : Ordering) → is_eq r ≡ true → r ≡ Equal
eq_equal Less h = cc
eq_equal Equal h = refl
eq_equal Greater h = cc

less_from : (r : Ordering) → is_gt r ≡ false → r ≢ Equal → is_lt r ≡ true
less_from Less g n = refl
less_from Equal g n = absurd (n refl)
less_from Greater g n = cc

module _ {R : List Meaning → List Meaning → Ordering} (o : IsTotalOrder R) (keys : List (List Meaning)) (ordered : AreOrdered R keys) where
  pub first_number : 0 < length keys → group_number R keys 0 ≡ 0
  first_number h =
      ap (λ ks. length (distinct R ks)) (filter_nothing (λ key. is_lt (R key (key_at keys 0))) keys
      (recursion_from_All (λ key. is_lt (R key (key_at keys 0)) ≡ false) keys
      (λ j d l. subst (λ key. is_lt (R key (key_at keys 0)) ≡ false) (get_or_default keys j [] d l)
      (sym (gt_is_lt o (key_at keys 0) (key_at keys j)) ∙ ordered 0 j (omega arith) l))))

  pub same_number : (i : ℕ) → R (key_at keys i) (key_at keys (i + 1)) ≡ Equal → group_number R keys (i + 1) ≡ group_number R keys i
  same_number i h =
      ap (λ ks. length (distinct R ks)) (filter_agree (λ key. is_lt (R key (key_at keys (i + 1)))) (λ key. is_lt (R key (key_at keys i)))
      (λ key. ap is_lt (sym (alike_right o (key_at keys i) (key_at keys (i + 1)) key h))) keys)

  pub next_number : (i : ℕ) → i + 1 < length keys → R (key_at keys i) (key_at keys (i + 1)) ≢ Equal
      → group_number R keys (i + 1) ≡ group_number R keys i + 1
  next_number i h differs =
      next_count o (key_at keys i) (key_at keys (i + 1)) keys
      (recursion_from_All (λ key. is_lt (R key k') ≡ (is_lt (R key k) || is_eq (R key k))) keys
      (λ j d l. subst (λ key. is_lt (R key k') ≡ (is_lt (R key k) || is_eq (R key k))) (get_or_default keys j [] d l)
      (at j l (cases_lt i j))))
      ∙ ap (λ b. group_number R keys i + cond b 1 0) (any_at (λ key. is_eq (R key k)) keys i [] il (ap is_eq (tied_itself o k)))
    where
      k : List Meaning
      k = key_at keys i

      k' : List Meaning
      k' = key_at keys (i + 1)

      il : i < length keys
      il = omega arith

      step : is_lt (R k k') ≡ true
      step = less_from (R k k') (ordered i (i + 1) (omega arith) h) differs

      at : (j : ℕ) → j < length keys → (i < j) ⊎ (j ≤ i)
          → is_lt (R (key_at keys j) k') ≡ (is_lt (R (key_at keys j) k) || is_eq (R (key_at keys j) k))
      at j l (inl g) =
          let up = ordered (i + 1) j (omega arith) l in
          sym (gt_is_lt o k' (key_at keys j)) ∙ up
          ∙ sym (above_or (R (key_at keys j) k) (gt_is_lt o (key_at keys j) k ∙ lt_upto o k k' (key_at keys j) step up))
      at j l (inr g) =
          let up = ordered j i g il in
          upto_lt o (key_at keys j) k k' up step ∙ sym (between_or (R (key_at keys j) k) up)

  -- the same by a row and the one before it
  same_before : (row : ℕ) → 0 < row → R (key_at keys (row - 1)) (key_at keys row) ≡ Equal
      → group_number R keys (row - 1) ≡ group_number R keys row
  same_before row h e =
      let n : row - 1 + 1 ≡ row = omega arith in
      sym (subst (λ r. R (key_at keys (row - 1)) (key_at keys r) ≡ Equal
      → group_number R keys r ≡ group_number R keys (row - 1)) n (same_number (row - 1)) e)

  next_before : (row : ℕ) → 0 < row → row < length keys → R (key_at keys (row - 1)) (key_at keys row) ≢ Equal
      → group_number R keys (row - 1) + 1 ≡ group_number R keys row
  next_before row h l d =
      let n : row - 1 + 1 ≡ row = omega arith in
      sym (subst (λ r. r < length keys → R (key_at keys (row - 1)) (key_at keys r) ≢ Equal
      → group_number R keys r ≡ group_number R keys (row - 1) + 1) n (next_number (row - 1)) l d)

  pub first_row : (row : ℕ) → row ≡ 0 → row < length keys → 0 ≡ group_number R keys row
  first_row row e l = sym (ap (group_number R keys) e ∙ first_number (omega arith))

  pub peer_before : (row : ℕ) → 0 < row → is_eq (R (key_at keys (row - 1)) (key_at keys row)) ≡ true
      → group_number R keys (row - 1) ≡ group_number R keys row
  peer_before row h e = same_before row h (eq_equal (R (key_at keys (row - 1)) (key_at keys row)) e)

  pub other_before : (row : ℕ) → 0 < row → row < length keys → is_eq (R (key_at keys (row - 1)) (key_at keys row)) ≡ false
      → group_number R keys (row - 1) + 1 ≡ group_number R keys row
  other_before row h l e = next_before row h l (λ f. let g : true ≡ false = ap is_eq (sym f) ∙ e in cc)

  -- the same by whether the two rows are peers
  pub peers_number : (i : ℕ) → is_eq (R (key_at keys i) (key_at keys (i + 1))) ≡ true → group_number R keys (i + 1) ≡ group_number R keys i
  peers_number i h = same_number i (eq_equal (R (key_at keys i) (key_at keys (i + 1))) h)

  pub others_number : (i : ℕ) → i + 1 < length keys → is_eq (R (key_at keys i) (key_at keys (i + 1))) ≡ false
      → group_number R keys (i + 1) ≡ group_number R keys i + 1
  others_number i l h = next_number i l (λ e. let f : true ≡ false = ap is_eq (sym e) ∙ h in cc)
