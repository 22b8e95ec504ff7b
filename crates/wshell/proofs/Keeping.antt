-- What is kept of a text with a byte more.
use Rattle.std.proofs.Common.{◌≡◌, ◌∙◌, ℕ, ◌+◌, ◌<◌, ◌≤◌, List, [], ◌∷◌, ◌++◌, length}
use Rattle.std.proofs.Common.{take, min, sym, ap, arith, length-append, length-take}
use Rattle.std.proofs.lemmas.List.{take-append-le, take_all}
use Rattle.wshell.specs.Pending.{Kept, IsPending, room}
use Rattle.wshell.specs.Splitting.{step}
use Rattle.wshell.proofs.Splitting.{mode_push}

-- it is kept where there is room
keeps_more : (kept text : List ℕ) (b : ℕ) → kept ≡ take room text → length kept < room → kept ++ b ∷ [] ≡ take room (text ++ b ∷ [])
keeps_more kept text b e few =
    let counted : length kept ≡ min room (length text) = ap length e ∙ length-take room text in
    let short : length text < room = omega (arith, counted, few) in
    let whole : take room text ≡ text = take_all room text (omega (arith, short)) in
    let longer : length (text ++ b ∷ []) ≡ length text + 1 = length-append text (b ∷ []) in
    ap (λ l. l ++ b ∷ []) (e ∙ whole) ∙ sym (take_all room (text ++ b ∷ []) (omega (arith, longer, short)))

-- and else it is not
keeps_still : (kept text : List ℕ) (b : ℕ) → kept ≡ take room text → room ≤ length kept → kept ≡ take room (text ++ b ∷ [])
keeps_still kept text b e many =
    let counted : length kept ≡ min room (length text) = ap length e ∙ length-take room text in
    let long : room ≤ length text = omega (arith, counted, many) in
    e ∙ sym (take-append-le room text (b ∷ []) long)

pub pending_more : (old new : Kept) (b : ℕ) (text : List ℕ) → new ≡ record {
  text = old.text ++ b ∷ [];
  mode =
      step old.mode b;
} → length old.text < room → IsPending old text → IsPending new (text ++ b ∷ [])
pending_more old new b text e few is = record {
  text_is = ap (λ (k : Kept). k.text) e ∙ keeps_more old.text text b is.text_is few;
  mode_is = ap (λ (k : Kept). k.mode) e ∙ ap (λ n. step n b) is.mode_is ∙ mode_push text b;
}

pub pending_still : (old new : Kept) (b : ℕ) (text : List ℕ) → new ≡ record { text = old.text; mode = step old.mode b }
    → room ≤ length old.text → IsPending old text → IsPending new (text ++ b ∷ [])
pending_still old new b text e many is = record {
  text_is = ap (λ (k : Kept). k.text) e ∙ keeps_still old.text text b is.text_is many;
  mode_is = ap (λ (k : Kept). k.mode) e ∙ ap (λ n. step n b) is.mode_is ∙ mode_push text b;
}
