-- The word at a place of a list of words.
use Rattle.std.proofs.Common.{◌≡◌, ◌<◌, ◌≤◌, ℕ, zero, suc, List, [], ◌∷◌, length, slice_index_or, Bor, refl, arith}
use Rattle.window_bench.specs.Words.{word_at}

pub word_there : (words : List (Bor (List ℕ))) (i : ℕ) → i < length words
    → (slice_index_or words i (record { ref_ptr = (0, 0); now = [] })).now ≡ word_at words i
word_there [] i h = absurd (omega arith)
word_there (word ∷ words) zero h = refl
word_there (word ∷ words) (suc i) h = word_there words i (omega arith)

pub word_missing : (words : List (Bor (List ℕ))) (i : ℕ) → length words ≤ i → ◌≡◌ {A = List ℕ} [] (word_at words i)
word_missing [] i h = refl
word_missing (word ∷ words) zero h = absurd (omega arith)
word_missing (word ∷ words) (suc i) h = word_missing words i (omega arith)
