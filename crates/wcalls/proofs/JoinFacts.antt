-- The joins of functions, one after another.
use Rattle.std.proofs.Common.{◌≡◌, ◌+◌, ◌<◌, ◌≤◌, ℕ, List, get_or, length, take, ap, arith}
use Rattle.std.specs.Prelude.{sum_by}
use Rattle.std.proofs.lemmas.List.Sums.{sum_by_more, sum_by_more_le, sum_by-take-le}

-- the joins of one element more, that at a place
pub joins_more : {X : Type 0} (f : X → ℕ) (xs : List X) (i : ℕ) (x : X) (first old new : ℕ) → i < length xs
    → x ≡ get_or xs i x → old ≤ first + sum_by f (take i xs) → new ≤ old + f x → new ≤ first + sum_by f (take (i + 1) xs)
joins_more f xs i x first old new h at so_far here = omega (arith, sum_by_more f xs i x h, ap f at)

-- they are within those of all
pub joins_within : {X : Type 0} (f : X → ℕ) (xs : List X) (i : ℕ) (x : X) (first old new : ℕ) → i < length xs
    → x ≡ get_or xs i x → old ≤ first + sum_by f (take i xs) → new ≤ old + f x → new ≤ first + sum_by f xs
joins_within f xs i x first old new h at so_far here = omega (arith, sum_by_more_le f xs i x h, ap f at)

pub joins_of_all : {X : Type 0} (f : X → ℕ) (xs : List X) (i first last : ℕ) → last ≤ first + sum_by f (take i xs)
    → last ≤ first + sum_by f xs
joins_of_all f xs i first last so_far = omega (arith, sum_by-take-le f xs i)
