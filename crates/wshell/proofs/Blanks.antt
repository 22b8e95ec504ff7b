-- A text without tokens.
use Rattle.std.proofs.Common.{◌≡◌, ◌≢◌, suc, ℕ, ◌<◌, ◌≤◌, ◌==◌, ◌∙◌, Bool, true, false, true≢false, List}
use Rattle.std.proofs.Common.{[], ◌∷◌, length, map, Result, Err, refl, sym, ap, subst, arith}
use Rattle.std.specs.Prelude.{◌↔◌, IsTrue}
use Rattle.std.proofs.lemmas.Bool.Decides.{nat_tests}
use Rattle.wlexer.specs.Lexing.{HasFaultAt, Lexes}
use Rattle.wlexer.specs.Token.{PlacedToken, placed}
use Rattle.wlexer.specs.declared.fault.LexFault.{LexFault}
use Rattle.wlexer.specs.declared.fault.LexFault.TheVariants as lexing
use Rattle.wlexer.specs.declared.token.Token.{Token}
use Rattle.wlexer.proofs.OneLexing.{one_list, tokens_or_fault}
use Rattle.wask.specs.Texts.{IsForeign, IsText}
use Rattle.wshell.specs.Replying.{IsBlank}

abbrev has : List PlacedToken → Bool
has [] = false
has (x ∷ xs) = true

some_is_not_none : (n : ℕ) → (suc n == 0) ≡ false
some_is_not_none n = grind (arith, nat_tests)

-- it is blank just where there are none
pub blank_by_tokens : (text : List ℕ) (tokens : List Token) (b : Bool) → b ≡ (length tokens == 0) → IsText text
    → Lexes text (map placed tokens) → IsTrue b ↔ IsBlank text
blank_by_tokens text [] b e is lexes = subst (λ t. IsTrue t ↔ IsBlank text) (sym e)
    ((λ _. record { is_text = is; none = lexes }), (λ _. refl))
blank_by_tokens text (t ∷ ts) b e is lexes = subst (λ c. IsTrue c ↔ IsBlank text) (sym (e ∙ some_is_not_none (length ts))) (
  (λ h. absurd (true≢false (sym h))),
  (λ (blank : IsBlank text). absurd (true≢false (sym (ap has (one_list text [] (map placed (t ∷ ts)) blank.none lexes))))),
)

too_many : (n : ℕ) → 65536 < n → n ≤ 65536 → ⊥
too_many n many few = omega (arith, many, few)

-- a text with a fault is not
pub faulty_is_filled : {A : Type 0} (text : List ℕ) (fault : LexFault) → fault ≢ lexing.NoMemory
    → ((◌≡◌ {A = Result A LexFault} (Err fault) (Err lexing.TooLong)) ↔ (65536 < length text))
    → ((◌≡◌ {A = Result A LexFault} (Err fault) (Err lexing.NotUtf8)) ↔ ((length text ≤ 65536) × IsForeign text))
    → ((place : ℕ) → ◌≡◌ {A = Result A LexFault} (Err fault) (Err (lexing.At place)) → HasFaultAt text place) → ¬ (IsBlank text)
faulty_is_filled text lexing.TooLong other long foreign at blank = too_many (length text) (long.0 refl) blank.is_text.0
faulty_is_filled text lexing.NotUtf8 other long foreign at blank = blank.is_text.1 (foreign.0 refl).1
faulty_is_filled text (lexing.At place) other long foreign at blank = tokens_or_fault text [] place blank.none (at place refl)
faulty_is_filled text lexing.NoMemory other long foreign at blank = other refl

pub filled_is_false : (text : List ℕ) → ¬ (IsBlank text) → IsTrue false ↔ IsBlank text
filled_is_false text filled = ((λ h. absurd (true≢false (sym h))), (λ blank. absurd (filled blank)))

pub not_blank : (text : List ℕ) (b : Bool) → IsTrue b ↔ IsBlank text → b ≡ false → ¬ (IsBlank text)
not_blank text b is e blank = true≢false (sym (is.1 blank) ∙ e)
