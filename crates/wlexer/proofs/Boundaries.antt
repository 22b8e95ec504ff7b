-- A text may be cut behind a stretch.
use Rattle.std.proofs.Common.{◌≡◌, ℕ, zero, suc, ◌<◌, ◌≤◌, List, length, get_or, true, false, ap, subst, ◌∙◌, arith, not, add-one}
use Rattle.std.proofs.lemmas.Bool.Decides.{nat_tests}
use Rattle.std.proofs.lemmas.List.Sums.{prefix_len-le-length, prefix_len_passes, prefix_len_stops}
use Rattle.std.proofs.lemmas.Str.{IsCharBoundary-start, IsCharBoundary-after_ascii}
use Rattle.std.specs.Char.{is_ascii, is_ascii_digit}
use Rattle.std.specs.List.{prefix_len}
use Rattle.std.specs.Str.{IsUtf8, IsCharBoundary}
use Rattle.wlexer.specs.Bytes.{continues, continues_word, ends_line}
use Rattle.wlexer.specs.declared.bytes.Stretch.{Stretch}
use Rattle.wlexer.specs.declared.bytes.Stretch.TheVariants as stretches

word_ascii : (b : ℕ) → continues_word b ≡ true → b < 128
word_ascii b h = grind (arith, nat_tests)

digit_ascii : (b : ℕ) → is_ascii_digit b ≡ true → b < 128
digit_ascii b h = grind (arith, nat_tests)

line_end_ascii : (b : ℕ) → not (ends_line b) ≡ false → b < 128
line_end_ascii b h = grind (arith, nat_tests)

-- behind bytes that are ASCII
behind_ascii : (text : List ℕ) (n : ℕ) → IsUtf8 text → n ≤ length text → ((k : ℕ) → k < n → get_or text k 0 < 128) → IsCharBoundary text n
behind_ascii text zero u le below = IsCharBoundary-start text u
behind_ascii text (suc n) u le below = rw (← add-one n) (IsCharBoundary-after_ascii text n u (omega arith) (below n (omega arith)))

-- before a byte that is ASCII, or at the end
before_ascii : (text : List ℕ) (n : ℕ) → n ≤ length text → (n < length text → get_or text n 0 < 128) → IsCharBoundary text n
before_ascii text n le next = (le, λ lt high. absurd (let h = next lt in omega arith))

pub stretch_boundary : (stretch : Stretch) (text : List ℕ) → IsUtf8 text → IsCharBoundary text (prefix_len (continues stretch) text)
stretch_boundary stretches.Word text u =
    behind_ascii text _ u (prefix_len-le-length (continues stretches.Word) text)
    (λ k lt. word_ascii _ (prefix_len_passes (continues stretches.Word) text k 0 lt))
stretch_boundary stretches.Digits text u =
    behind_ascii text _ u (prefix_len-le-length (continues stretches.Digits) text)
    (λ k lt. digit_ascii _ (prefix_len_passes (continues stretches.Digits) text k 0 lt))
stretch_boundary stretches.Comment text u =
    before_ascii text _ (prefix_len-le-length (continues stretches.Comment) text)
    (λ lt. line_end_ascii _ (prefix_len_stops (continues stretches.Comment) text 0 lt))

is_small : (b : ℕ) → is_ascii b ≡ true → b < 128
is_small b h = grind (arith, nat_tests)

-- behind the first byte, where it is ASCII
pub behind_first : (text bytes : List ℕ) (first : ℕ) → IsUtf8 text → bytes ≡ text → (0 < length bytes)
    × ((d : ℕ) → first ≡ get_or bytes 0 d) → is_ascii first ≡ true → IsCharBoundary text 1
behind_first text bytes first u e h small =
    let some : 0 < length text = subst (λ (z : List ℕ). 0 < length z) e h.0 in
    let at : first ≡ get_or text 0 0 = h.1 0 ∙ ap (λ (z : List ℕ). get_or z 0 0) e in
    let below = is_small first small in
    IsCharBoundary-after_ascii text 0 u some (omega arith)
