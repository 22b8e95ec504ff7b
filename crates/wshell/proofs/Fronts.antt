-- Fronts of texts that were written.
use Rattle.std.proofs.Common.{◌≡◌, ℕ, zero, suc, ◌+◌, List, [], ◌∷◌, ◌++◌, length, take, Option}
use Rattle.std.proofs.Common.{Result, Ok, Err, OnErr, OnOk, refl, sym, ap, subst}
use Rattle.std.specs.Io.KnownBytes.{Appends}
use Rattle.std.proofs.KnownBytes.{Appends-trans}
use Rattle.std.proofs.Math.Seq.{take-append-add}

front_take : (n : ℕ) (xs ys : List ℕ) → take (length (take n xs)) (xs ++ ys) ≡ take n xs
front_take zero xs ys = refl
front_take (suc n) [] ys = refl
front_take (suc n) (x ∷ xs) ys = ap (λ l. x ∷ l) (front_take n xs ys)

pub first_front : (a b : Option (List ℕ)) (xs ys : List ℕ) → ((n : ℕ) × Appends a b (take n xs)) → (n : ℕ) × Appends a b (take n (xs ++ ys))
first_front a b xs ys w = (length (take w.0 xs), subst (Appends a b) (sym (front_take w.0 xs ys)) w.1)

pub next_front : {A E : Type 0} (r : Result A E) (a b c : Option (List ℕ)) (xs ys : List ℕ) → Appends a b xs
    → OnErr r ((n : ℕ) × Appends b c (take n ys)) → OnErr r ((n : ℕ) × Appends a c (take n (xs ++ ys)))
next_front (Ok x) a b c xs ys k w = tt
next_front (Err e) a b c xs ys k w = (
  length xs + w.0,
  subst (Appends a c) (sym (take-append-add xs ys w.0))
      (Appends-trans a b c xs (take w.0 ys) k w.1),
)

pub next_whole : {A E : Type 0} (r : Result A E) (a b c : Option (List ℕ)) (xs ys : List ℕ) → Appends a b xs
    → OnOk r (Appends b c ys) → OnOk r (Appends a c (xs ++ ys))
next_whole (Ok x) a b c xs ys k w = Appends-trans a b c xs ys k w
next_whole (Err e) a b c xs ys k w = tt
