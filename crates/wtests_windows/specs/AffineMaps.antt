-- Affine maps over the numbers below 2^64: a fold whose join does not commute, for the tests.
use Rattle.std.specs.Prelude.{◌≡◌, ℕ, ◌+◌, ◌*◌, ◌%◌, ◌^◌, ◌<◌}
use Rattle.std.proofs.Common.{arith, sym, ap, ◌∙◌}
use Rattle.std.proofs.Math.Nat.{mod-add-mod, add-mod-mod}
use Rattle.std.proofs.lemmas.Nat.{mul-mod_first, mul-mod_second}
use Rattle.wslide.specs.Laws.{FoldLaws}

-- the map of x to m.0 * x + m.1
abbrev pub IsMap : ℕ × ℕ → Type 0
IsMap m = (m.0 < 2 ^ 64) × (m.1 < 2 ^ 64)

abbrev pub maps_joined : ℕ × ℕ → ℕ × ℕ → ℕ × ℕ
maps_joined m n = ((m.0 * n.0) % 2 ^ 64, (m.0 * n.1 + m.1) % 2 ^ 64)

scales : (m a b c : ℕ) → (a * b) % m * c % m ≡ a * ((b * c) % m) % m
scales m a b c = mul-mod_first (a * b) c m ∙ ap (λ n. n % m) (omega arith) ∙ sym (mul-mod_second a (b * c) m)

shifts : (m a1 a2 b1 b2 b3 : ℕ) → ((a1 * a2) % m * b3 + (a1 * b2 + b1) % m) % m ≡ (a1 * ((a2 * b3 + b2) % m) + b1) % m
shifts m a1 a2 b1 b2 b3 =
    let products : a1 * a2 * b3 + (a1 * b2 + b1) ≡ a1 * (a2 * b3 + b2) + b1 = omega arith in
    add-mod-mod ((a1 * a2) % m * b3) (a1 * b2 + b1) m
    ∙ sym (mod-add-mod ((a1 * a2) % m * b3) m (a1 * b2 + b1))
    ∙ ap (λ n. (n + (a1 * b2 + b1)) % m) (mul-mod_first (a1 * a2) b3 m)
    ∙ mod-add-mod (a1 * a2 * b3) m (a1 * b2 + b1)
    ∙ ap (λ n. n % m) products
    ∙ sym (mod-add-mod (a1 * (a2 * b3 + b2)) m b1)
    ∙ ap (λ n. (n + b1) % m) (sym (mul-mod_second a1 (a2 * b3 + b2) m))
    ∙ mod-add-mod (a1 * ((a2 * b3 + b2) % m)) m b1

abbrev pair : ℕ → ℕ → ℕ × ℕ
pair a b = (a, b)

same : (a b c d : ℕ) → a ≡ c → b ≡ d → pair a b ≡ pair c d
same a b c d e f = ap (λ x. pair x b) e ∙ ap (pair c) f

pub map_laws : FoldLaws IsMap (1, 0) maps_joined
map_laws = record {
  neutral_is = (omega arith, omega arith);
  closed = λ m n hm hn. (omega arith, omega arith);
  left_neutral = λ m hm. let h = hm.0 in let k = hm.1 in same ((1 * m.0) % 2 ^ 64) ((1 * m.1 + 0) % 2 ^ 64) m.0 m.1
      (omega arith) (omega arith);
  right_neutral = λ m hm. let h = hm.0 in let k = hm.1 in same ((m.0 * 1) % 2 ^ 64) ((m.0 * 0 + m.1) % 2 ^ 64) m.0 m.1
      (omega arith) (omega arith);
  assoc = λ m n p hm hn hp. same _ _ _ _ (scales (2 ^ 64) m.0 n.0 p.0) (shifts (2 ^ 64) m.0 n.0 m.1 n.1 p.1);
}
