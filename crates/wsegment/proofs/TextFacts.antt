-- Slots of texts.
use Rattle.std.proofs.lemmas.List.{length-map}
use Rattle.std.proofs.Common.{◌≡◌, ◌<◌, ◌≤◌, ℕ, zero, suc, List, [], ◌∷◌, All, length, map, subst, arith}

pub all_mapped : {X Y : Type 0} (f : X → Y) (y : Y) (xs : List X) → All (λ x. f x ≡ y) xs → All (λ z. z ≡ y) (map f xs)
all_mapped f y [] h = λ k d lt. absurd (omega arith)
all_mapped f y (x ∷ xs) h = by (all_mapped f y xs (λ k d lt. h (suc k) d (omega (arith, lt))))
  where
    by : All (λ z. z ≡ y) (map f xs) → All (λ z. z ≡ y) (map f (x ∷ xs))
    by rest zero d lt = h 0 x (omega arith)
    by rest (suc k) d lt = rest k d (omega (arith, lt))

-- a place of a list is one of what the list is seen as
pub within : {X Y : Type 0} (f : X → Y) (xs : List X) {ys : List Y} {k last : ℕ} → map f xs ≡ ys → k ≤ last
    → last < length xs → k < length ys
within f xs {k = k} e le lt = subst (λ v. k < length v) e (omega (arith, length-map xs f, le, lt))
