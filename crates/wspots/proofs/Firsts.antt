-- The first breach of so many, one number after another.
use Rattle.std.proofs.Common.{◌≡◌, ℕ, suc, ◌+◌, ◌-◌, ◌<◌, ap, ◌∙◌, Option, Some, None, refl, sym, arith, is_some, true, false}
use Rattle.wspots.specs.declared.notes.Breach.{Breach}
use Rattle.wspots.specs.Names.{first_from, or_else}

-- the one at a number, or else those behind it
pub first_step : (at : ℕ → Option Breach) (i n : ℕ) → i < n → first_from at i (n - i) ≡ or_else (at i) (first_from at (i + 1) (n - (i + 1)))
first_step at i n h =
    let more : n - i ≡ suc (n - (i + 1)) = omega (arith, h) in
    let next : suc i ≡ i + 1 = omega arith in
    ap (first_from at i) more ∙ ap (λ k. or_else (at i) (first_from at k (n - (i + 1)))) next

found_or : (found other : Option Breach) → is_some found ≡ true → found ≡ or_else found other
found_or (Some x) other h = refl
found_or None other h = cc

none_or : (found other : Option Breach) → is_some found ≡ false → or_else found other ≡ other
none_or None other h = refl
none_or (Some x) other h = cc

-- where one is found it is the first
pub first_found : (at : ℕ → Option Breach) (i n : ℕ) (found : Option Breach) → i < n → found ≡ at i → is_some found ≡ true
    → found ≡ first_from at i (n - i)
first_found at i n found h is some =
    found_or found (first_from at (i + 1) (n - (i + 1))) some ∙ ap (λ b. or_else b (first_from at (i + 1) (n - (i + 1)))) is
    ∙ sym (first_step at i n h)

-- where none is found the first is behind
pub first_behind : (at : ℕ → Option Breach) (i n : ℕ) (found : Option Breach) → i < n → found ≡ at i → is_some found ≡ false
    → first_from at i (n - i) ≡ first_from at (i + 1) (n - (i + 1))
first_behind at i n found h is none =
    first_step at i n h ∙ ap (λ b. or_else b (first_from at (i + 1) (n - (i + 1)))) (sym is)
    ∙ none_or found (first_from at (i + 1) (n - (i + 1))) none
