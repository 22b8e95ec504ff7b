-- The joins of the folds obey the laws of a fold.
use Rattle.std.specs.Prelude.{◌≡◌, ℕ, ℤ, pos, negsuc, neg_ℤ, ◌+ℤ◌, ◌-ℤ◌, ◌*ℤ◌, ◌<◌, ◌^◌, int_lt, List}
use Rattle.std.specs.Prelude.{Bool, true, false, Option, Some, None, length, if◌then◌else◌, refl}
use Rattle.std.specs.Ordering.{is_lt, is_gt, ordering_reverse}
use Rattle.std.specs.Cmp.{IsTotalOrder, upto, alike_right}
use Rattle.std.specs.declared.cmp.Ordering.{Ordering}
use Rattle.std.specs.declared.cmp.Ordering.TheVariants.{Less, Equal, Greater}
use Rattle.std.proofs.Common.{arith, sym, ap, ◌∙◌}
use Rattle.std.proofs.lemmas.Int.{ints}
use Rattle.wvalues.specs.Meaning.{Meaning}
use Rattle.wvalues.specs.OrderLaws.{key_total}
use Rattle.wslide.specs.Aggregates.{by_value_in, by_value, by_value_descending}
use Rattle.wslide.specs.Laws.{FoldLaws}
use Rattle.wslide.specs.Counts.{IsCount, counts_joined}
use Rattle.wslide.specs.Sums.{IsShort, IsSum, wrapped, sums_joined}
use Rattle.wslide.specs.Leasts.{IsPlace, value_at, is_less_right, leasts_joined}

pub count_laws : FoldLaws IsCount 0 counts_joined
count_laws = record {
  neutral_is = omega arith;
  closed = λ x y hx hy. omega arith;
  left_neutral = λ x hx. omega arith;
  right_neutral = λ x hx. omega arith;
  assoc = λ x y z hx hy hz. omega arith;
}

-- to wrap moves a number by 2^127, or not
wrapped_by : (z : ℤ) → (k : ℤ) × (wrapped z ≡ z +ℤ k *ℤ pos (2 ^ 127))
wrapped_by z = by (int_lt z (neg_ℤ (pos (2 ^ 126)))) (int_lt z (pos (2 ^ 126)))
  where
    by : (b c : Bool) → (k : ℤ) × ((if b then z +ℤ pos (2 ^ 127) else (if c then z else z -ℤ pos (2 ^ 127))) ≡ z +ℤ k *ℤ pos (2 ^ 127))
    by true c = (pos 1, omega (arith, ints))
    by false true = (pos 0, omega (arith, ints))
    by false false = (negsuc 0, omega (arith, ints))

wrapped_short : (x y : ℤ) → IsShort x → IsShort y → IsShort (wrapped (x +ℤ y))
wrapped_short x y hx hy = grind (arith, ints)

wrapped_assoc : (x y z : ℤ) → IsShort x → IsShort y → IsShort z → wrapped (wrapped (x +ℤ y) +ℤ z) ≡ wrapped (x +ℤ wrapped (y +ℤ z))
wrapped_assoc x y z hx hy hz =
    let left = wrapped_short x y hx hy in
    let right = wrapped_short y z hy hz in
    let both = wrapped_short (wrapped (x +ℤ y)) z left hz in
    let other = wrapped_short x (wrapped (y +ℤ z)) hx right in
    omega (
      arith,
      ints,
      (wrapped_by (x +ℤ y)).1,
      (wrapped_by (y +ℤ z)).1,
      (wrapped_by (wrapped (x +ℤ y) +ℤ z)).1,
      (wrapped_by (x +ℤ wrapped (y +ℤ z))).1,
      both,
      other,
    )

sum_assoc : (x y z : Option ℤ) → IsSum x → IsSum y → IsSum z → sums_joined (sums_joined x y) z ≡ sums_joined x (sums_joined y z)
sum_assoc None y z hx hy hz = refl
sum_assoc (Some x) None z hx hy hz = refl
sum_assoc (Some x) (Some y) None hx hy hz = refl
sum_assoc (Some x) (Some y) (Some z) hx hy hz = ap Some (wrapped_assoc x y z hx hy hz)

sum_closed : (x y : Option ℤ) → IsSum x → IsSum y → IsSum (sums_joined x y)
sum_closed None y hx hy = hy
sum_closed (Some x) None hx hy = hx
sum_closed (Some x) (Some y) hx hy = wrapped_short x y hx hy

sum_right : (x : Option ℤ) → sums_joined x None ≡ x
sum_right None = refl
sum_right (Some x) = refl

pub sum_laws : FoldLaws IsSum None sums_joined
sum_laws = record {
  neutral_is = tt;
  closed = sum_closed;
  left_neutral = λ x hx. refl;
  right_neutral = λ x hx. sum_right x;
  assoc = sum_assoc;
}

chosen : (values : List Meaning) (i j : ℕ) (b : Bool) → i < length values → j < length values
    → IsPlace values (if b then Some j else Some i)
chosen values i j true hx hy = hy
chosen values i j false hx hy = hx

closed : (order : Meaning → Meaning → Ordering) (values : List Meaning) (x y : Option ℕ) → IsPlace values x
    → IsPlace values y → IsPlace values (leasts_joined order values x y)
closed order values None y hx hy = hy
closed order values (Some i) None hx hy = hx
closed order values (Some i) (Some j) hx hy = chosen values i j (is_less_right order values i j) hx hy

right_none : (order : Meaning → Meaning → Ordering) (values : List Meaning) (x : Option ℕ) → leasts_joined order values x None ≡ x
right_none order values None = refl
right_none order values (Some i) = refl

module _ {order : Meaning → Meaning → Ordering} (total : IsTotalOrder order) where
  turned : (o : Ordering) → is_lt (ordering_reverse o) ≡ is_gt o
  turned Less = refl
  turned Equal = refl
  turned Greater = refl

  -- one comes before another just where the other comes after it
  pub lt_is_gt : (x y : Meaning) → is_lt (order x y) ≡ is_gt (order y x)
  lt_is_gt x y = ap is_lt (total.antisymm x y) ∙ turned (order y x)

  pub less : (o : Ordering) → is_lt o ≡ true → o ≡ Less
  less Less h = refl
  less Equal h = absurd (cc)
  less Greater h = absurd (cc)

  pub less_chain : (x y z : Meaning) → is_lt (order x y) ≡ true → is_lt (order y z) ≡ true → is_lt (order x z) ≡ true
  less_chain x y z h k = ap is_lt (total.trans x y z (less (order x y) h) (less (order y z) k))

  after_less : (x y z : Meaning) (o : Ordering) → is_lt (order x y) ≡ true → order y z ≡ o → is_gt o ≡ false → is_lt (order x z) ≡ true
  after_less x y z Less h e k = less_chain x y z h (ap is_lt e)
  after_less x y z Equal h e k = ap is_lt (sym (alike_right total y z x e)) ∙ h
  after_less x y z Greater h e k = absurd (cc)

  -- where x is before y, and y not after z, x is before z
  pub less_upto : (x y z : Meaning) → is_lt (order x y) ≡ true → is_gt (order y z) ≡ false → is_lt (order x z) ≡ true
  less_upto x y z h k = after_less x y z (order y z) h refl k

  -- where y is not before x, nor z before y, z is not before x
  not_less_chain : (x y z : Meaning) → is_lt (order y x) ≡ false → is_lt (order z y) ≡ false → is_lt (order z x) ≡ false
  not_less_chain x y z h k =
      lt_is_gt z x ∙ upto total x y z (sym (lt_is_gt y x) ∙ h) (sym (lt_is_gt z y) ∙ k)

  module _ (values : List Meaning) where
    assoc_by : (i j k : ℕ) (b c : Bool) → is_less_right order values i j ≡ b → is_less_right order values j k ≡ c →
        leasts_joined order values (leasts_joined order values (Some i) (Some j)) (Some k) ≡ leasts_joined order values
        (Some i) (leasts_joined order values (Some j) (Some k))
    assoc_by i j k true true h l =
        let m : is_less_right order values i k ≡ true = less_chain (value_at values k) (value_at values j) (value_at values i) l h in
        rw (h, l, m)
    assoc_by i j k true false h l = rw (h, l, h)
    assoc_by i j k false true h l = rw (h, l)
    assoc_by i j k false false h l =
        let m : is_less_right order values i k ≡ false = not_less_chain (value_at values i) (value_at values j) (value_at values k) h l in
        rw (h, l, h, m)

    assoc : (x y z : Option ℕ) → leasts_joined order values (leasts_joined order values x y) z ≡ leasts_joined order values
        x (leasts_joined order values y z)
    assoc None y z = refl
    assoc (Some i) None z = refl
    assoc (Some i) (Some j) None = right_none order values (leasts_joined order values (Some i) (Some j))
    assoc (Some i) (Some j) (Some k) = assoc_by i j k (is_less_right order values i j) (is_less_right order values j k) refl refl

    pub least_laws : FoldLaws (IsPlace values) None (leasts_joined order values)
    least_laws = record {
      neutral_is = tt;
      closed = closed order values;
      left_neutral = λ x hx. refl;
      right_neutral = λ x hx. right_none order values x;
      assoc = λ x y z hx hy hz. assoc x y z;
    }

pub by_value_in_total : (descending : Bool) → IsTotalOrder (by_value_in descending)
by_value_in_total descending = key_total (record { col = 0; desc = descending; nulls_first = false })

pub by_value_total : IsTotalOrder by_value
by_value_total = by_value_in_total false

pub by_value_descending_total : IsTotalOrder by_value_descending
by_value_descending_total = by_value_in_total true
