-- The labels of rules.
use Rattle.std.proofs.Common.{◌≡◌, ◌∙◌, sym, ap, ℕ, ◌+◌, ◌^◌, ◌<◌, ◌∷◌, map}
use Rattle.std.specs.Fmt.{decimal}
use Rattle.std.specs.Int.Digits.{digits_of}
use Rattle.std.proofs.lemmas.Fmt.{decimal-digits_of}

-- Q and the digits of a number, one after the other
pub label_of : (rule n : ℕ) → rule ≡ n → 0 < n → n < 2 ^ 64 → 81 ∷ map (λ d. 48 + d) (digits_of 10 n) ≡ 81 ∷ decimal rule
label_of rule n is some fits = ap (λ ds. 81 ∷ ds) (sym (ap decimal is ∙ decimal-digits_of n some fits))
