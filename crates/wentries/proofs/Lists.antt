-- Lists of which an element is written.
use Rattle.std.proofs.Common.{◌≡◌, ℕ, zero, suc, ◌+◌, ◌<◌, List, [], ◌∷◌, ◌++◌, length, map}
use Rattle.std.proofs.Common.{take, refl, sym, ap, ◌∙◌, arith, get_or, slice_set, add-one}
use Rattle.std.specs.Prelude.{All}
use Rattle.std.proofs.lemmas.List.{length-map}
use Rattle.std.proofs.lemmas.List.Elements.{All-append, All-cons, All-nil, All-same}

-- what is written keeps what is seen of each element
pub set_keeps : {X Y : Type 0} (f : X → Y) (xs : List X) (i : ℕ) (x k : X) → x ≡ get_or xs i x → f k ≡ f x
    → map f (slice_set xs i k) ≡ map f xs
set_keeps f [] i x k is same = refl
set_keeps f (y ∷ ys) zero x k is same = ap (λ z. z ∷ map f ys) (same ∙ ap f is)
set_keeps f (y ∷ ys) (suc i) x k is same = ap (λ l. f y ∷ l) (set_keeps f ys i x k is same)

-- an element that is written as it was
pub set_same : {X : Type 0} (xs : List X) (i : ℕ) (x k : X) → x ≡ get_or xs i x → k ≡ x → slice_set xs i k ≡ xs
set_same [] i x k is same = refl
set_same (y ∷ ys) zero x k is same = ap (λ z. z ∷ ys) (same ∙ is)
set_same (y ∷ ys) (suc i) x k is same = ap (λ l. y ∷ l) (set_same ys i x k is same)

take_set : {X : Type 0} (xs : List X) (i : ℕ) (k : X) → i < length xs → take (i + 1) (slice_set xs i k) ≡ take i xs ++ k ∷ []
take_set [] i k lt = absurd (omega (arith, lt))
take_set (y ∷ ys) zero k lt = refl
take_set (y ∷ ys) (suc i) k lt = rw add-one (ap (λ l. y ∷ l) (rw add-one at (take_set ys i k (omega (arith, lt)))))

pub all_more : {X : Type 0} (P : X → Type 0) (xs : List X) (i : ℕ) (k : X) → i < length xs → All P (take i xs) → P k
    → All P (take (i + 1) (slice_set xs i k))
all_more P xs i k lt all here = All-same P (take (i + 1) (slice_set xs i k)) (take i xs ++ k ∷ []) (take_set xs i k lt)
    (All-append P (take i xs) (k ∷ []) all (All-cons P k [] here (All-nil P)))

pub length-set : {X : Type 0} (xs : List X) (i : ℕ) (k : X) → length (slice_set xs i k) ≡ length xs
length-set [] i k = refl
length-set (y ∷ ys) zero k = refl
length-set (y ∷ ys) (suc i) k = ap suc (length-set ys i k)

pub same_length : {X Y : Type 0} (f : X → Y) (a b : List X) → map f a ≡ map f b → length a ≡ length b
same_length f a b e = sym (length-map a f) ∙ ap length e ∙ length-map b f
