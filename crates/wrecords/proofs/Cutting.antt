-- A body that no line feed follows.
use Rattle.std.proofs.Common.{◌≢◌, ℕ, suc, ◌<◌, List, ◌++◌, length, get_or, take, drop, sym, ap, ◌∙◌, arith, take-append-drop, drop-cons}
use Rattle.std.proofs.lemmas.List.{length-take-le}
use Rattle.wrecords.specs.Cuts.{IsUnfed}

pub unfed_at : (xs : List ℕ) (i : ℕ) → i < length xs → get_or xs i 0 ≢ 10 → IsUnfed i xs
unfed_at xs i lt other = record {
  body = take i xs;
  byte = get_or xs i 0;
  more = drop (suc i) xs;
  bytes_are = sym (take-append-drop i xs) ∙ ap (λ l. take i xs ++ l) (drop-cons xs i 0 lt);
  length_is = length-take-le i xs (omega arith);
  other = other;
}
