-- Lines, field by field.
use Rattle.std.proofs.Common.{◌≡◌, ◌∙◌, ◌+◌, ◌<◌, ◌++◌, ℕ, List, [], ◌∷◌, get_or, length, map, take, refl, sym, ap, append_assoc, arith}
use Rattle.std.specs.List.{join_with_byte}
use Rattle.std.proofs.lemmas.List.{length-map, length-take-le, map-append, take_more}

-- one more piece behind others
pub join-push : (c : ℕ) (pieces : List (List ℕ)) (piece : List ℕ) → 0 < length pieces
    → join_with_byte c (pieces ++ piece ∷ []) ≡ join_with_byte c pieces ++ (c ∷ piece)
join-push c [] piece some = absurd (omega arith)
join-push c (x ∷ []) piece some = refl
join-push c (x ∷ y ∷ xs) piece some =
    let some_left : 0 < length (y ∷ xs) = omega arith in
    ap (λ rest. x ++ (c ∷ rest)) (join-push c (y ∷ xs) piece some_left) ∙ sym (append_assoc x (c ∷ join_with_byte c (y ∷ xs)) (c ∷ piece))

module _ {T : Type 0} (c : ℕ) (text : T → List ℕ) (fields : List T) where
  -- the first fields, joined
  abbrev pub joined : ℕ → List ℕ
  joined i = join_with_byte c (map text (take i fields))

  -- the first field has nothing before it
  pub joined-first : (i : ℕ) (field : T) (start old new : List ℕ) → i ≡ 0 → i < length fields
      → field ≡ get_or fields i field → old ≡ start ++ joined i → new ≡ old ++ text field → new ≡ start ++ joined (i + 1)
  joined-first i field start old new first within is so_far written =
      let one : take (i + 1) fields ≡ field ∷ [] = rw (take_more fields i field within, ← is, first) refl in
      let none : joined i ≡ [] = rw first refl in
      written ∙ ap (λ front. front ++ text field) (so_far ∙ ap (λ front. start ++ front) none)
      ∙ append_assoc start [] (text field) ∙ ap (λ some. start ++ join_with_byte c (map text some)) (sym one)

  -- each other field has the byte between
  pub joined-more : (i : ℕ) (field : T) (start old parted new : List ℕ) → 0 < i → i < length fields
      → field ≡ get_or fields i field → old ≡ start ++ joined i → parted ≡ old ++ c ∷ [] → new ≡ parted ++ text field
      → new ≡ start ++ joined (i + 1)
  joined-more i field start old parted new other within is so_far comma written =
      let some : 0 < length (map text (take i fields)) =
      omega (arith, length-map (take i fields) text, length-take-le i fields (omega arith)) in
      let one : map text (take (i + 1) fields) ≡ map text (take i fields) ++ text field ∷ [] =
      rw (take_more fields i field within, ← is) (map-append text (take i fields) (field ∷ [])) in
      let more : joined (i + 1) ≡ joined i ++ (c ∷ text field) =
      ap (join_with_byte c) one ∙ join-push c (map text (take i fields)) (text field) some in
      written ∙ ap (λ front. front ++ text field) (comma ∙ ap (λ front. front ++ c ∷ []) so_far
      ∙ append_assoc start (joined i) (c ∷ [])) ∙ append_assoc start (joined i ++ c ∷ []) (text field)
      ∙ ap (λ line. start ++ line) (append_assoc (joined i) (c ∷ []) (text field) ∙ sym more)
