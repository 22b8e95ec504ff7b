-- Bytes at the front of an array of zeros.
use Rattle.std.specs.Str.{IsUtf8}
use Rattle.std.proofs.Common.{◌≡◌, ℕ, ◌≤◌, ◌++◌, List, take, drop, length, replicate, sym, ap, subst, ◌∙◌}
use Rattle.std.proofs.Math.Seq.{take-append_seam}
use Rattle.std.proofs.lemmas.List.{drop-replicate}
use Rattle.wvalues.specs.Names.{IsName}
use Rattle.wvalues.specs.NameView as names
use Rattle.wvalues.specs.Padded.{padded}
use Rattle.wvalues.specs.ShortView as shorts

zeros : (size : ℕ) (bytes array : List ℕ) → array ≡ bytes ++ drop (length bytes) (replicate size 0) → array ≡ padded size bytes
zeros size bytes array e = e ∙ ap (λ l. bytes ++ l) (drop-replicate (length bytes) size 0)

front : (size : ℕ) (bytes array : List ℕ) → array ≡ bytes ++ drop (length bytes) (replicate size 0) → take (length bytes) array ≡ bytes
front size bytes array e = ap (take (length bytes)) e ∙ take-append_seam bytes _

pub stored_name : (bytes array : List ℕ) (number : ℕ) → length bytes ≤ 32
    → IsName (record { origin = bytes; number = number }) → array ≡ bytes ++ drop (length bytes) (replicate 32 0)
    → names.IsStored (record { origin = array; len = length bytes; number = number })
stored_name bytes array number short name e =
    let is_name : IsName (record { origin = take (length bytes) array; number = number }) = rw (front 32 bytes array e) name in
    record {
      name = is_name;
      back = ap (λ b. names.stored (record { origin = b; number = number })) (front 32 bytes array e)
          ∙ ap (λ a. record { origin = a; len = length bytes; number = number }) (sym (zeros 32 bytes array e));
      short = short;
    }

pub stored_text : (bytes array : List ℕ) → length bytes ≤ 14 → IsUtf8 bytes → array ≡ bytes ++ drop (length bytes) (replicate 14 0)
    → shorts.IsStored (record { len = length bytes; bytes = array })
stored_text bytes array short text e = record {
  back = ap (λ b. shorts.stored b) (front 14 bytes array e)
      ∙ ap (λ a. record { len = length bytes; bytes = a }) (sym (zeros 14 bytes array e));
  short = short;
  utf8 = subst IsUtf8 (sym (front 14 bytes array e)) text;
}
