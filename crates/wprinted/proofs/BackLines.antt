-- Lines that are written from their last field to their first.
use Rattle.std.proofs.Common.{◌≡◌, ◌∙◌, ◌+◌, ◌-◌, ◌<◌, ◌≤◌, ◌++◌, ◌==◌, ℕ, suc, Bool, true, false, cond, List, []}
use Rattle.std.proofs.Common.{◌∷◌, drop, drop-cons, get_or, length, map, sym, ap, append_assoc, arith, refl}
use Rattle.std.proofs.lemmas.Bool.Decides.{nat_tests}
use Rattle.std.proofs.lemmas.List.{drop-drop, drop_at, length-append, length-drop}
use Rattle.std.specs.List.{flat_map, join_with_byte}
use Rattle.std.specs.Prelude.{IfNone, None, Option, Some}
use Rattle.wvalues.specs.Meaning.{Meaning, Null}
use Rattle.wprinted.specs.Printing.{doubled, field_text, line_text, values_at}

-- what stands behind a place stays where the bytes before it are written
pub kept-behind : (start end : ℕ) (front old new : List ℕ) → start ≤ end → end ≤ length old → length new ≡ length old
    → drop start new ≡ front ++ drop end old → drop end new ≡ drop end old
kept-behind start end front old new ordered within room is =
    let longs : length new - start ≡ length front + (length old - end) =
    sym (length-drop start new) ∙ ap length is ∙ length-append front (drop end old) ∙ ap (λ n. length front + n) (length-drop end old) in
    let long : length front ≡ end - start = omega (arith, longs, ordered, within, room) in
    let all : start + (end - start) ≡ end = omega (arith, ordered) in
    ap (λ n. drop n new) (sym all) ∙ sym (drop-drop (end - start) start new) ∙ ap (drop (end - start)) is
    ∙ drop_at front (drop end old) (end - start) long

-- a comma where a field is not the last one, and what stands behind it
pub comma-first : (is_last : Bool) (behind : List ℕ) → cond is_last behind (44 ∷ behind) ≡ cond is_last [] (44 ∷ []) ++ behind
comma-first true behind = refl
comma-first false behind = refl

-- one more from the end of a list
pub drop-back : {X : Type 0} (xs : List X) (left : ℕ) (d : X) → 0 < left → left ≤ length xs
    → drop (left - 1) xs ≡ get_or xs (left - 1) d ∷ drop left xs
drop-back xs left d some within =
    let e : suc (left - 1) ≡ left = omega (arith, some) in
    drop-cons xs (left - 1) d (omega (arith, some, within)) ∙ ap (λ k. get_or xs (left - 1) d ∷ drop k xs) e

-- one more byte of a text in quotes before those that are written
pub doubled-more : (text : List ℕ) (left byte : ℕ) (behind old new : List ℕ) → 0 < left → left ≤ length text
    → byte ≡ get_or text (left - 1) 0 → old ≡ flat_map doubled (drop left text) ++ behind → new ≡ doubled byte ++ old
    → new ≡ flat_map doubled (drop (left - 1) text) ++ behind
doubled-more text left byte behind old new some within is so_far written =
    written ∙ ap (λ b. doubled b ++ old) is ∙ ap (λ l. doubled (get_or text (left - 1) 0) ++ l) so_far
    ∙ sym (append_assoc (doubled (get_or text (left - 1) 0)) (flat_map doubled (drop left text)) behind)
    ∙ ap (λ l. flat_map doubled l ++ behind) (sym (drop-back text left 0 some within))

module _ (ps : List ℕ) (row : List Meaning) (behind : List ℕ) where
  -- the line of the values from a place on, and what stands behind it
  abbrev pub line_from : ℕ → List ℕ
  line_from k = line_text (map field_text (values_at (drop k ps) row)) ++ behind

  abbrev field_of : ℕ → List ℕ
  field_of place = field_text (get_or row place Null)

  -- one more field before those that are written
  pub line-more : (left : ℕ) (last : Bool) (old new : List ℕ) (value : Meaning) → 0 < left → left ≤ length ps
      → last ≡ (left == length ps) → old ≡ line_from left → value ≡ get_or row (get_or ps (left - 1) 0) Null
      → new ≡ field_text value ++ cond last old (44 ∷ old) → new ≡ line_from (left - 1)
  line-more left last old new value some within is so_far here written =
      let long : length (drop left ps) ≡ length ps - left = length-drop left ps in
      go (drop left ps) last long is so_far (written ∙ ap (λ v. field_text v ++ cond last old (44 ∷ old)) here)
      ∙ sym (ap (λ l. line_text (map field_text (values_at l row)) ++ behind) (drop-back ps left 0 some within))
    where
      go : (rest : List ℕ) (last : Bool) → length rest ≡ length ps - left → last ≡ (left == length ps)
          → old ≡ line_text (map field_text (values_at rest row)) ++ behind
          → new ≡ field_of (get_or ps (left - 1) 0) ++ cond last old (44 ∷ old)
          → new ≡ line_text (map field_text (values_at (get_or ps (left - 1) 0 ∷ rest) row)) ++ behind
      go [] true long is so_far written =
          written ∙ ap (λ l. field_of (get_or ps (left - 1) 0) ++ l) so_far
          ∙ sym (append_assoc (field_of (get_or ps (left - 1) 0)) (10 ∷ []) behind)
      go [] false long is so_far written = absurd (grind (arith, nat_tests, long, is, within))
      go (p ∷ rest) true long is so_far written = absurd (grind (arith, nat_tests, long, is, within))
      go (p ∷ rest) false long is so_far written =
          let others : List ℕ = join_with_byte 44 (map field_text (values_at (p ∷ rest) row)) in
          written ∙ ap (λ l. field_of (get_or ps (left - 1) 0) ++ 44 ∷ l) so_far
          ∙ sym (append_assoc (field_of (get_or ps (left - 1) 0)) (44 ∷ (others ++ 10 ∷ [])) behind)
          ∙ ap (λ l. l ++ behind) (sym (append_assoc (field_of (get_or ps (left - 1) 0)) (44 ∷ others) (10 ∷ [])))

-- where there is no result, what follows from what holds there
pub if-none : {X A B : Type 0} (result : Option X) → (A → B) → IfNone result A → IfNone result B
if-none None then h = then h
if-none (Some x) then h = h

-- what holds anyway holds where there is no result
pub none-keeps : {X A : Type 0} (result : Option X) → A → IfNone result A
none-keeps None h = h
none-keeps (Some x) h = tt
