-- Integers that are moved farther than any two lie apart.
use Rattle.std.proofs.Common.{◌≡◌, ℕ, ℤ, pos, ◌<◌, ◌≤◌, ◌^◌, Bool, true, false, Ordering, Less, Greater, sym, ap, ◌∙◌, arith, inl, inr, ◌⊎◌}
use Rattle.std.specs.Prelude.{◌<ℤ◌, ◌-ℤ◌, ◌+ℤ◌, neg_ℤ, if◌then◌else◌}
use Rattle.std.specs.Ordering.{int_cmp}
use Rattle.std.specs.Cmp.{int_cmp_is}
use Rattle.std.proofs.lemmas.Bool.{cases_lt}
use Rattle.std.proofs.lemmas.Int.{ints}
use Rattle.wvalues.specs.Whole.{IsWhole}

both_less : (u v x : ℤ) → u <ℤ x → v <ℤ x → int_cmp u x ≡ int_cmp v x
both_less u v x h k = sym (int_cmp_is u x Less h) ∙ int_cmp_is v x Less k

both_greater : (u v x : ℤ) → x <ℤ u → x <ℤ v → int_cmp u x ≡ int_cmp v x
both_greater u v x h k = sym (int_cmp_is u x Greater h) ∙ int_cmp_is v x Greater k

above : (x y : ℤ) (n : ℕ) → x <ℤ pos (2 ^ 95) → neg_ℤ (pos (2 ^ 95)) <ℤ y → 2 ^ 97 ≤ n → x <ℤ (y +ℤ pos n)
above x y n a b h = omega (arith, ints)

below : (x y : ℤ) (n : ℕ) → neg_ℤ (pos (2 ^ 95)) <ℤ x → y <ℤ pos (2 ^ 95) → 2 ^ 97 ≤ n → (y -ℤ pos n) <ℤ x
below x y n a b h = omega (arith, ints)

up_alike : (x y by : ℤ) (n : ℕ) → IsWhole x → IsWhole y → (n < 2 ^ 97 → by ≡ pos n) → (2 ^ 97 ≤ n → by ≡ pos (2 ^ 97))
    → (n < 2 ^ 97) ⊎ (2 ^ 97 ≤ n) → int_cmp (y +ℤ by) x ≡ int_cmp (y +ℤ pos n) x
up_alike x y by n small within near far (inl h) = ap (λ b. int_cmp (y +ℤ b) x) (near h)
up_alike x y by n small within near far (inr h) =
    ap (λ b. int_cmp (y +ℤ b) x) (far h)
    ∙ both_greater (y +ℤ pos (2 ^ 97)) (y +ℤ pos n) x (above x y (2 ^ 97) small.1 within.0 (omega arith)) (above x y n small.1 within.0 h)

down_alike : (x y by : ℤ) (n : ℕ) → IsWhole x → IsWhole y → (n < 2 ^ 97 → by ≡ pos n) → (2 ^ 97 ≤ n → by ≡ pos (2 ^ 97))
    → (n < 2 ^ 97) ⊎ (2 ^ 97 ≤ n) → int_cmp (y -ℤ by) x ≡ int_cmp (y -ℤ pos n) x
down_alike x y by n small within near far (inl h) = ap (λ b. int_cmp (y -ℤ b) x) (near h)
down_alike x y by n small within near far (inr h) =
    ap (λ b. int_cmp (y -ℤ b) x) (far h)
    ∙ both_less (y -ℤ pos (2 ^ 97)) (y -ℤ pos n) x (below x y (2 ^ 97) small.0 within.1 (omega arith)) (below x y n small.0 within.1 h)

module _ (x y gx gy by : ℤ) (n : ℕ) (up : Bool) (r : Ordering) (ex : gx ≡ x) (ey : gy ≡ y) (small : IsWhole gx)
    (within : IsWhole gy) (near : n < 2 ^ 97 → by ≡ pos n) (far : 2 ^ 97 ≤ n → by ≡ pos (2 ^ 97)) where
  pub up_is : r ≡ int_cmp (gy +ℤ by) gx → up ≡ true → r ≡ int_cmp (if up then y +ℤ pos n else y -ℤ pos n) x
  up_is e is =
      e ∙ up_alike gx gy by n small within near far (cases_lt n (2 ^ 97)) ∙ ap (λ z. int_cmp (z +ℤ pos n) gx) ey
      ∙ ap (int_cmp (y +ℤ pos n)) ex
      ∙ sym (ap (λ b. int_cmp (if b then y +ℤ pos n else y -ℤ pos n) x) is)

  pub down_is : r ≡ int_cmp (gy -ℤ by) gx → up ≡ false → r ≡ int_cmp (if up then y +ℤ pos n else y -ℤ pos n) x
  down_is e is =
      e ∙ down_alike gx gy by n small within near far (cases_lt n (2 ^ 97)) ∙ ap (λ z. int_cmp (z -ℤ pos n) gx) ey
      ∙ ap (int_cmp (y -ℤ pos n)) ex
      ∙ sym (ap (λ b. int_cmp (if b then y +ℤ pos n else y -ℤ pos n) x) is)
