-- Words, and the numbers that they spell.
use Rattle.std.proofs.Common.{◌≡◌, ℕ, zero, suc, ◌^◌, ◌<◌, ◌≤◌, List, length, get_or, Result, Ok, sym, ap, subst, arith}
use Rattle.std.specs.Fmt.{decimal}
use Rattle.std.specs.Result.{OkIff}
use Rattle.std.specs.Str.Parse.{ParsesUnsigned, AllDigits, digits_value}
use Rattle.std.proofs.lemmas.Fmt.{decimal_nonempty, first_decimal, decimal_digit, decimal-digits_value}
use Rattle.std.proofs.lemmas.Str.Parse.{IsNumeralModel, numerals_by_value, tells_digits, parse_plain}
use Rattle.wvalues.specs.Number.{IsPlain}

own : IsNumeralModel (AllDigits 10) (digits_value 10)
own = numerals_by_value (AllDigits 10) tells_digits

first_of_zero : get_or (decimal 0) 0 0 ≡ 48
first_of_zero = ap (λ l. get_or l 0 0) (decimal_digit 0 (omega arith))

first_digit : (n : ℕ) → n < 2 ^ 64 → 48 ≤ get_or (decimal n) 0 0
first_digit zero h = omega (arith, first_of_zero)
first_digit (suc n) h = omega (arith, first_decimal (suc n) (omega arith) h)

alone : (n : ℕ) → n < 2 ^ 64 → get_or (decimal n) 0 0 ≡ 48 → length (decimal n) ≡ 1
alone zero h e = ap length (decimal_digit 0 (omega arith))
alone (suc n) h e = absurd (omega (arith, first_decimal (suc n) (omega arith) h))

pub decimal_plain : (n : ℕ) → n < 2 ^ 64 → IsPlain (decimal n)
decimal_plain n h = record {
  filled = decimal_nonempty n h;
  unsigned = λ e. omega (arith, first_digit n h);
  canonical = alone n h;
}

-- what a plain word is parsed to is what it spells
pub plain_found : {E : Type 0} (bs : List ℕ) (r : Result ℕ E) (n : ℕ) → ParsesUnsigned 32 10 bs r → IsPlain bs → r ≡ Ok n
    → (bs ≡ decimal n) × (n < 2 ^ 32)
plain_found {E} bs r n h p e =
    let parsed = subst (λ (q : Result ℕ E). OkIff q (AllDigits 10 bs × (0 < length bs) × (digits_value 10 bs < 2 ^ 32))
    (digits_value 10 bs)) e (parse_plain own 32 bs r h p.unsigned) in
    rw parsed.1 (sym (decimal-digits_value own bs parsed.0.0 parsed.0.1 p.canonical (omega (arith, parsed.0.2))), parsed.0.2)
