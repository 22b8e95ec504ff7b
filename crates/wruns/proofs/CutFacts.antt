-- The pieces of a list that is cut.
use Rattle.std.proofs.Common.{◌≡◌, ℕ, zero, suc, ◌+◌, ◌-◌, ◌<◌, ◌≤◌, List, [], ◌∷◌, ◌++◌, length, map}
use Rattle.std.proofs.Common.{take, drop, get_or, Option, Some, None, Vec, refl, sym, ap, ◌∙◌, arith}
use Rattle.std.specs.Global.{Global}
use Rattle.std.specs.List.{AllByRecursion}
use Rattle.std.proofs.lemmas.List.{drop_all, drop-drop, get_or-map, take-append-drop}
use Rattle.wruns.specs.Cuts.{between, cut, start_of, pieces_of, AreEnds, AreEndsOf}
use Rattle.wruns.specs.Runs.{joined}

-- the pieces are the list
joined_cut : {X : Type 0} (from : ℕ) (ends : List ℕ) (xs : List X) → AreEnds from ends (length xs)
    → joined (cut from ends xs) ≡ drop from xs
joined_cut from [] xs h = sym (drop_all from xs (omega (arith, h)))
joined_cut from (end ∷ ends) xs h =
    let e : from + (end - from) ≡ end = omega (arith, h.0) in
    ap (λ l. between from end xs ++ l) (joined_cut end ends xs h.2)
    ∙ ap (λ k. between from end xs ++ drop k xs) (sym e)
    ∙ ap (λ l. between from end xs ++ l) (sym (drop-drop (end - from) from xs))
    ∙ take-append-drop (end - from) (drop from xs)

joined_single : {X : Type 0} (xs : List X) → joined (map (λ x. x ∷ []) xs) ≡ xs
joined_single [] = refl
joined_single (x ∷ xs) = ap (λ l. x ∷ l) (joined_single xs)

pub joined_pieces : {X : Type 0} (ends : Option (Vec ℕ Global)) (xs : List X) → AreEndsOf ends xs → joined (pieces_of ends xs) ≡ xs
joined_pieces None xs h = joined_single xs
joined_pieces (Some ends) xs h = joined_cut 0 ends.items xs h

length-cut : {X : Type 0} (from : ℕ) (ends : List ℕ) (xs : List X) → length (cut from ends xs) ≡ length ends
length-cut from [] xs = refl
length-cut from (end ∷ ends) xs = ap suc (length-cut end ends xs)

pub length-pieces : {X : Type 0} (ends : List ℕ) (xs : List X) → length (cut 0 ends xs) ≡ length ends
length-pieces ends xs = length-cut 0 ends xs

-- the piece of a number
piece_at : {X : Type 0} (from : ℕ) (ends : List ℕ) (xs : List X) (i : ℕ) → i < length ends
    → get_or (cut from ends xs) i [] ≡ between (start_of from ends i) (get_or ends i 0) xs
piece_at from [] xs i h = absurd (omega (arith, h))
piece_at from (end ∷ ends) xs zero h = refl
piece_at from (end ∷ ends) xs (suc zero) h = piece_at end ends xs 0 (omega (arith, h))
piece_at from (end ∷ ends) xs (suc (suc i)) h = piece_at end ends xs (suc i) (omega (arith, h))

pub piece_is : {X : Type 0} (ends : List ℕ) (xs : List X) (i : ℕ) → i < length ends
    → get_or (cut 0 ends xs) i [] ≡ between (start_of 0 ends i) (get_or ends i 0) xs
piece_is ends xs i h = piece_at 0 ends xs i h

ends_at : (from : ℕ) (ends : List ℕ) (to i : ℕ) → AreEnds from ends to → i < length ends
    → (start_of from ends i < get_or ends i 0) × (get_or ends i 0 ≤ to)
ends_at from [] to i h lt = absurd (omega (arith, lt))
ends_at from (end ∷ ends) to zero h lt = (h.0, h.1)
ends_at from (end ∷ ends) to (suc zero) h lt = ends_at end ends to 0 h.2 (omega (arith, lt))
ends_at from (end ∷ ends) to (suc (suc i)) h lt = ends_at end ends to (suc i) h.2 (omega (arith, lt))

-- a piece lies in the list
pub piece_within : (ends : List ℕ) (to i : ℕ) → AreEnds 0 ends to → i < length ends → (start_of 0 ends i < get_or ends i 0)
    × (get_or ends i 0 ≤ to)
piece_within ends to i h lt = ends_at 0 ends to i h lt

take_one : {X : Type 0} (xs : List X) (i : ℕ) (d : X) → i < length xs → take 1 (drop i xs) ≡ get_or xs i d ∷ []
take_one [] i d h = absurd (omega (arith, h))
take_one (x ∷ xs) zero d h = refl
take_one (x ∷ xs) (suc i) d h = take_one xs i d (omega (arith, h))

-- a piece of one element
pub single_is : (xs : List ℕ) (i : ℕ) → i < length xs → get_or (map (λ x. x ∷ []) xs) i [] ≡ between i (i + 1) xs
single_is xs i h =
    let e : i + 1 - i ≡ 1 = omega arith in
    get_or-map (λ x. x ∷ []) xs i 0 [] h ∙ sym (take_one xs i 0 h) ∙ ap (λ n. take n (drop i xs)) (sym e)

-- one end more
ends_from : (from : ℕ) (ends : List ℕ) (first next : ℕ) → AreEnds from ends first → first < next → AreEnds from (ends ++ next ∷ []) next
ends_from from [] first next h lt = (omega (arith, h, lt), omega arith, refl)
ends_from from (end ∷ ends) first next h lt = (h.0, omega (arith, h.1, lt), ends_from end ends first next h.2 lt)

pub ends_more : (ends : List ℕ) (first next : ℕ) → AreEnds 0 ends first → first < next → AreEnds 0 (ends ++ next ∷ []) next
ends_more ends first next h lt = ends_from 0 ends first next h lt

all_more : {X : Type 0} (P : List X → Type 0) (xs : List X) (from : ℕ) (ends : List ℕ) (first next : ℕ)
    → AreEnds from ends first → AllByRecursion P (cut from ends xs) → P (between first next xs)
    → AllByRecursion P (cut from (ends ++ next ∷ []) xs)
all_more P xs from [] first next h all here = (rw h here, tt)
all_more P xs from (end ∷ ends) first next h all here = (all.0, all_more P xs end ends first next h.2 all.1 here)

-- one piece more
pub pieces_more : {X : Type 0} (P : List X → Type 0) (xs : List X) (ends : List ℕ) (first next : ℕ) → AreEnds 0 ends first
    → AllByRecursion P (cut 0 ends xs) → P (between first next xs) → AllByRecursion P (cut 0 (ends ++ next ∷ []) xs)
pieces_more P xs ends first next h all here = all_more P xs 0 ends first next h all here
