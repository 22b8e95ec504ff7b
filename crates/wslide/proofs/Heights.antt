-- What the height says.
use Rattle.std.proofs.Common.{◌≡◌, ℕ, zero, suc, ◌+◌, ◌^◌, ◌<◌, ◌≤◌, Bool, true, false, arith, refl}
use Rattle.std.specs.Prelude.{nat_le, if◌then◌else◌}
use Rattle.std.proofs.lemmas.Grind.{pow_more}
use Rattle.std.proofs.lemmas.Nat.{pow_pos, pow_below}
use Rattle.std.proofs.lemmas.Bool.{cases_lt}
use Rattle.std.proofs.Common.{inl, inr}
use Rattle.std.proofs.lemmas.Bool.Decides.{nat_tests}
use Rattle.std.proofs.Math.Pow.{pow_mono}
use Rattle.wslide.specs.Height.{height, least_from}

le_of_test : (m n : ℕ) → nat_le m n ≡ true → m ≤ n
le_of_test m n e = grind (arith, nat_tests)

lt_of_test : (m n : ℕ) → nat_le m n ≡ false → n < m
lt_of_test m n e = grind (arith, nat_tests)

chosen : (k n m : ℕ) (b : Bool) → nat_le m (2 ^ k) ≡ b → (2 ^ k < m → m ≤ 2 ^ n) → m ≤ 2 ^ (if b then k else n)
chosen k n m true e h = le_of_test m (2 ^ k) e
chosen k n m false e h = h (lt_of_test m (2 ^ k) e)

from_enough : (tries k m : ℕ) → m ≤ tries + 2 ^ k → m ≤ 2 ^ (least_from tries k m)
from_enough zero k m h = omega arith
from_enough (suc tries) k m h =
    chosen k (least_from tries (k + 1) m) m (nat_le m (2 ^ k)) refl
    (λ lt. from_enough tries (k + 1) m (rw (pow_more 2 k) (omega (arith, pow_pos k))))

pub height_enough : (m : ℕ) → m ≤ 2 ^ height m
unfolding height
height_enough m = from_enough m 0 m (omega arith)

-- powers of two grow with their exponents
pub exponent_le : (i j : ℕ) → 2 ^ i ≤ 2 ^ j → i ≤ j
exponent_le i j h = elim (cases_lt j i) [ inl lt ↦ absurd (omega (arith, pow_below j i lt)) | inr le ↦ le ]

least_chosen : (k n e : ℕ) (m : ℕ) (b : Bool) → nat_le m (2 ^ k) ≡ b → k ≤ e → (2 ^ k < m → n ≤ e) → (if b then k else n) ≤ e
least_chosen k n e m true t h next = h
least_chosen k n e m false t h next = next (lt_of_test m (2 ^ k) t)

from_least : (tries k m e : ℕ) → m ≤ 2 ^ e → k ≤ e → least_from tries k m ≤ e
from_least zero k m e h l = l
from_least (suc tries) k m e h l =
    least_chosen k (least_from tries (k + 1) m) e m (nat_le m (2 ^ k)) refl l
    (λ lt. from_least tries (k + 1) m e h (elim (cases_lt k e) [
      | inl below ↦ omega arith
      | inr above ↦ absurd (omega (arith, pow_mono above))
    ]))

pub height_least : (m e : ℕ) → m ≤ 2 ^ e → height m ≤ e
unfolding height
height_least m e h = from_least m 0 m e h (omega arith)
