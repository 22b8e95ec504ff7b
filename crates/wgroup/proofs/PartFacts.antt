-- Aggregates of groups, by those of finer groups.
use Rattle.std.proofs.Common.{◌≡◌, ℕ, pos, ◌||◌, ◌+ℤ◌, Bool, true, false, cond, List, [], ◌∷◌, map, filter}
use Rattle.std.proofs.Common.{Ordering, Less, Equal, Greater, is_gt, true≢false, refl, sym, ap, ◌∙◌}
use Rattle.std.specs.Cmp.{IsTotalOrder}
use Rattle.std.specs.Ordering.{ordering_reverse}
use Rattle.std.proofs.lemmas.List.Sums.{sum_by-cons}
use Rattle.std.proofs.lemmas.Cmp.{upto}
use Rattle.wframe.proofs.SortFacts.{all_sorted}
use Rattle.std.specs.List.{AllByRecursion, count_by, list_any}
use Rattle.std.proofs.Math.IntN.{pos-+ℤ-pos}
use Rattle.wvalues.specs.Meaning.{Meaning, Null, Int, Text}
use Rattle.wframe.specs.Sorting.{inserted, sorted}
use Rattle.wslide.specs.Aggregates.{is_value, number_of, sum_of}
use Rattle.waggregate.specs.Aggregating.{first_or_null}
use Rattle.wgroup.proofs.TotalFacts.{total}

-- sums, as totals
pub any_is_total : (p : ℕ → Bool) (rows : List ℕ) → list_any p rows ≡ total false (λ a b. a || b) p rows
any_is_total p [] = refl
any_is_total p (r ∷ rows) = ap (λ b. p r || b) (any_is_total p rows)

pub sum_is_total : (feed : ℕ → Meaning) (rows : List ℕ)
    → sum_of feed rows ≡ total (pos 0) (λ a b. a +ℤ b) (λ row. number_of (feed row)) rows
sum_is_total feed [] = refl
sum_is_total feed (r ∷ rows) = ap (λ z. number_of (feed r) +ℤ z) (sum_is_total feed rows)

pub count_is_total : (p : ℕ → Bool) (rows : List ℕ)
    → pos (count_by p rows) ≡ total (pos 0) (λ a b. a +ℤ b) (λ row. cond (p row) (pos 1) (pos 0)) rows
count_is_total p [] = refl
count_is_total p (r ∷ rows) =
    ap pos (sum_by-cons (λ row. cond (p row) 1 0) r rows) ∙ sym (pos-+ℤ-pos (cond (p r) 1 0) (count_by p rows))
    ∙ ap (λ z. pos (cond (p r) 1 0) +ℤ z) (count_is_total p rows)
    ∙ ap (λ z. z +ℤ total (pos 0) (λ a b. a +ℤ b) (λ row. cond (p row) (pos 1) (pos 0)) rows) (out (p r))
  where
    out : (b : Bool) → pos (cond b 1 0) ≡ cond b (pos 1) (pos 0)
    out true = refl
    out false = refl

-- the lesser of two values, where null is none
abbrev pub lesser : (Meaning → Meaning → Ordering) → Meaning → Meaning → Meaning
lesser cmp a b = cond (is_value a) (cond (is_value b) (cond (is_gt (cmp a b)) b a) a) b

null_is : (a : Meaning) → is_value a ≡ false → a ≡ Null
null_is Null h = refl
null_is (Int x) h = absurd (true≢false h)
null_is (Text x) h = absurd (true≢false h)

module _ (cmp : Meaning → Meaning → Ordering) (order : IsTotalOrder cmp) (tie : (a b : Meaning) → cmp a b ≡ Equal → a ≡ b) where
  pub none_left : (a : Meaning) → lesser cmp Null a ≡ a
  none_left a = refl

  of_null : (a b : Meaning) → is_value a ≡ false → lesser cmp a b ≡ b
  of_null a b h = ap (λ p. cond p (cond (is_value b) (cond (is_gt (cmp a b)) b a) a) b) h

  with_null : (a b : Meaning) → is_value b ≡ false → lesser cmp a b ≡ a
  with_null a b h = ap (λ q. cond (is_value a) (cond q (cond (is_gt (cmp a b)) b a) a) b) h ∙ go (is_value a) refl
    where
      go : (p : Bool) → is_value a ≡ p → cond p a b ≡ a
      go true e = refl
      go false e = null_is b h ∙ sym (null_is a e)

  of_values : (a b : Meaning) → is_value a ≡ true → is_value b ≡ true → lesser cmp a b ≡ cond (is_gt (cmp a b)) b a
  of_values a b h k = ap (λ p. cond p (cond (is_value b) (cond (is_gt (cmp a b)) b a) a) b) h
      ∙ ap (λ q. cond q (cond (is_gt (cmp a b)) b a) a) k

  either_first : (a b : Meaning) → cond (is_gt (cmp a b)) b a ≡ cond (is_gt (cmp b a)) a b
  either_first a b = ap (λ o. cond (is_gt o) b a) (order.antisymm a b) ∙ by (cmp b a) refl
    where
      by : (o : Ordering) → cmp b a ≡ o → cond (is_gt (ordering_reverse o)) b a ≡ cond (is_gt o) a b
      by Less e = refl
      by Equal e = sym (tie b a e)
      by Greater e = refl

  pub lesser_comm : (a b : Meaning) → lesser cmp a b ≡ lesser cmp b a
  lesser_comm a b = go (is_value a) (is_value b) refl refl
    where
      go : (p q : Bool) → is_value a ≡ p → is_value b ≡ q → lesser cmp a b ≡ lesser cmp b a
      go false q e f = of_null a b e ∙ sym (with_null b a e)
      go true false e f = with_null a b f ∙ sym (of_null b a f)
      go true true e f = of_values a b e f ∙ either_first a b ∙ sym (of_values b a f e)

  gt_back : (a b : Meaning) → is_gt (cmp a b) ≡ true → cmp b a ≡ Less
  gt_back a b h = order.antisymm b a ∙ by (cmp a b) h
    where
      by : (o : Ordering) → is_gt o ≡ true → ordering_reverse o ≡ Less
      by Less e = absurd (true≢false (sym e))
      by Equal e = absurd (true≢false (sym e))
      by Greater e = refl

  gt_over : (a b c : Meaning) → is_gt (cmp a b) ≡ true → is_gt (cmp b c) ≡ true → is_gt (cmp a c) ≡ true
  gt_over a b c h k = ap is_gt (order.antisymm a c ∙ ap ordering_reverse (order.trans c b a (gt_back b c k) (gt_back a b h)))

  three : (a b c : Meaning) → is_value a ≡ true → is_value b ≡ true → is_value c ≡ true → (p q : Bool) → is_gt (cmp a b) ≡ p
      → is_gt (cmp b c) ≡ q → lesser cmp (lesser cmp a b) c ≡ lesser cmp a (lesser cmp b c)
  three a b c va vb vc p q e f =
      ap (λ x. lesser cmp x c) (of_values a b va vb ∙ ap (λ p. cond p b a) e) ∙ go p q e f
      ∙ sym (ap (lesser cmp a) (of_values b c vb vc ∙ ap (λ q. cond q c b) f))
    where
      go : (p q : Bool) → is_gt (cmp a b) ≡ p → is_gt (cmp b c) ≡ q → lesser cmp (cond p b a) c ≡ lesser cmp a (cond q c b)
      go false false e f = of_values a c va vc ∙ ap (λ r. cond r c a) (upto order a b c e f)
          ∙ sym (of_values a b va vb ∙ ap (λ r. cond r b a) e)
      go false true e f = refl
      go true false e f = of_values b c vb vc ∙ ap (λ r. cond r c b) f ∙ sym (of_values a b va vb ∙ ap (λ r. cond r b a) e)
      go true true e f = of_values b c vb vc ∙ ap (λ r. cond r c b) f ∙ sym (of_values a c va vc ∙ ap (λ r. cond r c a) (gt_over a b c e f))

  pub lesser_assoc : (a b c : Meaning) → lesser cmp (lesser cmp a b) c ≡ lesser cmp a (lesser cmp b c)
  lesser_assoc a b c = go (is_value a) (is_value b) (is_value c) refl refl refl
    where
      go : (p q r : Bool) → is_value a ≡ p → is_value b ≡ q → is_value c ≡ r → lesser cmp (lesser cmp a b) c ≡ lesser cmp a (lesser cmp b c)
      go false q r e f g = ap (λ x. lesser cmp x c) (of_null a b e) ∙ sym (of_null a (lesser cmp b c) e)
      go true false r e f g = ap (λ x. lesser cmp x c) (with_null a b f) ∙ sym (ap (lesser cmp a) (of_null b c f))
      go true true false e f g = with_null (lesser cmp a b) c g ∙ sym (ap (lesser cmp a) (with_null b c g))
      go true true true e f g = three a b c e f g (is_gt (cmp a b)) (is_gt (cmp b c)) refl refl

  first_inserted : (x : Meaning) (ys : List Meaning) → is_value x ≡ true → AllByRecursion (λ y. is_value y ≡ true) ys
      → first_or_null (inserted cmp x ys) ≡ lesser cmp x (first_or_null ys)
  first_inserted x [] h all = sym (with_null x Null refl)
  first_inserted x (y ∷ ys) h all = go (is_gt (cmp x y)) ∙ sym (of_values x y h all.0)
    where
      go : (b : Bool) → first_or_null (cond b (y ∷ inserted cmp x ys) (x ∷ y ∷ ys)) ≡ cond b y x
      go true = refl
      go false = refl

  all_values : (vs : List Meaning) → AllByRecursion (λ v. is_value v ≡ true) (filter is_value vs)
  all_values [] = tt
  all_values (v ∷ vs) = go (is_value v) refl (all_values vs)
    where
      go : (b : Bool) → is_value v ≡ b → AllByRecursion (λ v. is_value v ≡ true) (filter is_value vs)
          → AllByRecursion (λ v. is_value v ≡ true) (cond b (v ∷ filter is_value vs) (filter is_value vs))
      go true e more = (e, more)
      go false e more = more

  pub least_is_total : (feed : ℕ → Meaning) (rows : List ℕ) → first_or_null (sorted cmp (filter is_value (map feed rows)))
      ≡ total Null (lesser cmp) feed rows
  least_is_total feed [] = refl
  least_is_total feed (r ∷ rows) = go (is_value (feed r)) refl (least_is_total feed rows)
    where
      go : (b : Bool) → is_value (feed r) ≡ b → first_or_null (sorted cmp (filter is_value (map feed rows)))
          ≡ total Null (lesser cmp) feed rows
          → first_or_null (sorted cmp (cond b (feed r ∷ filter is_value (map feed rows)) (filter is_value (map feed rows))))
          ≡ lesser cmp (feed r) (total Null (lesser cmp) feed rows)
      go true e more =
          first_inserted (feed r) (sorted cmp (filter is_value (map feed rows))) e
          (all_sorted cmp order (λ v. is_value v ≡ true) (filter is_value (map feed rows)) (all_values (map feed rows)))
          ∙ ap (lesser cmp (feed r)) more
      go false e more = more ∙ sym (of_null (feed r) (total Null (lesser cmp) feed rows) e)
