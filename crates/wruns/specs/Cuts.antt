-- A list that is cut at places.
use Rattle.std.specs.Prelude.{◌≡◌, ◌-◌, ◌<◌, ◌≤◌, ℕ, zero, suc, List, [], ◌∷◌, Vec, Option}
use Rattle.std.specs.Prelude.{Some, None, ⊤, map, length, take, drop, slice_index_or}
use Rattle.std.specs.Global.{Global}

-- what stands from one place up to another
abbrev pub between : {X : Type 0} → ℕ → ℕ → List X → List X
between from to xs = take (to - from) (drop from xs)

-- the pieces from a place on, each up to one of these ends
abbrev pub cut : {X : Type 0} → ℕ → List ℕ → List X → List (List X)
cut from [] xs = []
cut from (end ∷ ends) xs = between from end xs ∷ cut end ends xs

-- rising ends of pieces, of which the first begins at a place and the last ends at another
abbrev pub AreEnds : ℕ → List ℕ → ℕ → Type 0
AreEnds from [] to = from ≡ to
AreEnds from (end ∷ ends) to = (from < end) × (end ≤ to) × AreEnds end ends to

-- where the piece of a number begins
abbrev pub start_of : ℕ → List ℕ → ℕ → ℕ
start_of from ends zero = from
start_of from ends (suc i) = slice_index_or ends i 0

-- pieces that end there, and pieces of one element where no ends are told
abbrev pub pieces_of : {X : Type 0} → Option (Vec ℕ Global) → List X → List (List X)
pieces_of None xs = map (λ x. x ∷ []) xs
pieces_of (Some ends) xs = cut 0 ends.items xs

abbrev pub AreEndsOf : {X : Type 0} → Option (Vec ℕ Global) → List X → Type 0
AreEndsOf None xs = ⊤
AreEndsOf (Some ends) xs = AreEnds 0 ends.items (length xs)
