-- The digest of bytes is 64 digits.
use Rattle.std.proofs.Common.{◌≡◌, ℕ, zero, suc, ◌*◌, ◌/◌, ◌%◌, ◌<◌, Bool, true, ◌&&◌, inl}
use Rattle.std.proofs.Common.{inr, List, [], ◌∷◌, ◌++◌, slice_index, refl, ap, ◌∙◌, arith}
use Rattle.std.specs.Int.{to_be_bytes, w32}
use Rattle.std.specs.List.{list_all}
use Rattle.std.proofs.lemmas.Bool.{and_parts, cases_lt}
use Rattle.sha2.specs.Sha256.{digest_bytes, sha256}
use Rattle.sha2.proofs.Facts256.{length-sha256}
use Rattle.hex.specs.Hex.{encode_with, lower_digits}
use Rattle.hex.proofs.HexLemmas.{length-encode_with}
use Rattle.wrecords.specs.Forms.{IsDigest, is_digest_digit}
use Rattle.wexchange.specs.Files.{digest_of}

-- each of these is below 256
AreBytes : List ℕ → Type 0
AreBytes [] = Unit {0}
AreBytes (b ∷ bytes) = (b < 256) × AreBytes bytes

bytes_append : (xs ys : List ℕ) → AreBytes xs → AreBytes ys → AreBytes (xs ++ ys)
unfolding AreBytes
bytes_append [] ys h k = k
bytes_append (x ∷ xs) ys h k = (h.0, bytes_append xs ys h.1 k)

word_bytes : (n : ℕ) → AreBytes (to_be_bytes w32 n)
unfolding AreBytes
word_bytes n = (omega arith, (omega arith, (omega arith, (omega arith, tt))))

hash_bytes : (h : List ℕ) (n : ℕ) → AreBytes (digest_bytes h n)
unfolding digest_bytes AreBytes
hash_bytes h zero = tt
hash_bytes h (suc n) = bytes_append (digest_bytes h n) (to_be_bytes w32 (slice_index h n)) (hash_bytes h n) (word_bytes (slice_index h n))

sha_bytes : (m : List ℕ) → AreBytes (sha256 m)
unfolding sha256
sha_bytes m = hash_bytes _ 8

-- the digit at each of 16 places
passes : ℕ → Bool
passes zero = true
passes (suc n) = is_digest_digit (slice_index lower_digits n) && passes n

all_pass : passes 16 ≡ true
unfolding passes
all_pass = refl

one_passes : (n k : ℕ) → passes n ≡ true → k < n → is_digest_digit (slice_index lower_digits k) ≡ true
unfolding passes
one_passes zero k h lt = absurd (omega arith)
one_passes (suc n) k h lt =
    elim (cases_lt k n) [
      | inl below ↦ one_passes n k (and_parts (is_digest_digit (slice_index lower_digits n)) (passes n) h).1 below
      | inr top ↦
          let e : k ≡ n = omega arith in
          rw e (and_parts (is_digest_digit (slice_index lower_digits n)) (passes n) h).0
    ]

spelled : (bytes : List ℕ) → AreBytes bytes → list_all is_digest_digit (encode_with lower_digits bytes) ≡ true
unfolding AreBytes encode_with
spelled [] h = refl
spelled (b ∷ bytes) h =
    let high = one_passes 16 (b / 16) all_pass (omega (arith, h.0)) in
    let low = one_passes 16 (b % 16) all_pass (omega arith) in
    let rest = spelled bytes h.1 in
    rw (high, low) rest

pub digest_spelled : (bytes : List ℕ) → IsDigest (digest_of bytes)
digest_spelled bytes = record {
  length_is = length-encode_with lower_digits (sha256 bytes) ∙ ap (λ n. 2 * n) (length-sha256 bytes);
  spelled = spelled (sha256 bytes) (sha_bytes bytes);
}
