-- Values that are copied some rows at a time.
use Rattle.std.proofs.Common.{◌≡◌, ℕ, zero, suc, ◌<◌, ◌≤◌, ◌+◌, ◌-◌, ◌||◌, Bool, true, false, true≢false, List, [], ◌∷◌, ◌++◌, length}
use Rattle.std.proofs.Common.{map, take, drop, get_or, refl, sym, ap, ◌∙◌, arith}
use Rattle.std.specs.Prelude.{All, slice_range}
use Rattle.std.specs.List.{AllByRecursion, list_any}
use Rattle.std.proofs.lemmas.List.{map-append}
use Rattle.std.proofs.lemmas.List.Elements.{All-from_recursion, recursion_from_All}
use Rattle.wvalues.specs.Meaning.{Meaning, Null}
use Rattle.wslide.specs.Aggregates.{picked_values}

-- the front of a list, and what stands behind it
pub front_more : {X : Type 0} (n m : ℕ) (xs : List X) → take n xs ++ take m (drop n xs) ≡ take (n + m) xs
front_more zero m xs = let e : m ≡ 0 + m = omega arith in ap (λ k. take k xs) e
front_more (suc n) zero [] = let e : suc n ≡ suc n + 0 = omega arith in ap (λ k. take k []) e
front_more (suc n) (suc m) [] = let e : suc (n + suc m) ≡ suc n + suc m = omega arith in ap (λ k. take k []) e
front_more (suc n) m (x ∷ xs) = let e : suc (n + m) ≡ suc n + m = omega arith in ap (λ l. x ∷ l) (front_more n m xs)
    ∙ ap (λ k. take k (x ∷ xs)) e

-- the values of the first rows, and of those that follow
pub copied_more : (values : List Meaning) (n next : ℕ) (rows : List ℕ) → n ≤ next
    → picked_values values (take n rows) ++ picked_values values (slice_range rows n next) ≡ picked_values values (take next rows)
copied_more values n next rows h =
    let e : n + (next - n) ≡ next = omega (arith, h) in
    let value : ℕ → Meaning = λ row. get_or values row Null in
    sym (map-append value (take n rows) (slice_range rows n next))
    ∙ ap (map value) (front_more n (next - n) rows ∙ ap (λ k. take k rows) e)

all_taken : {X : Type 0} (P : X → Type 0) (n : ℕ) (xs : List X) → AllByRecursion P xs → AllByRecursion P (take n xs)
all_taken P zero xs all = tt
all_taken P (suc n) [] all = tt
all_taken P (suc n) (x ∷ xs) all = (all.0, all_taken P n xs all.1)

all_dropped : {X : Type 0} (P : X → Type 0) (n : ℕ) (xs : List X) → AllByRecursion P xs → AllByRecursion P (drop n xs)
all_dropped P zero xs all = all
all_dropped P (suc n) [] all = tt
all_dropped P (suc n) (x ∷ xs) all = all_dropped P n xs all.1

-- what holds of all rows holds of some that follow each other
pub all_among : {X : Type 0} (P : X → Type 0) (n next : ℕ) (xs : List X) → All P xs → All P (slice_range xs n next)
all_among P n next xs all = All-from_recursion P (slice_range xs n next)
    (all_taken P (next - n) (drop n xs) (all_dropped P n xs (recursion_from_All P xs all)))

neither : (a b : Bool) → (a || b) ≡ false → (a ≡ false) × (b ≡ false)
neither true b e = absurd (true≢false e)
neither false b e = (refl, e)

-- what holds of the value of no row does not hold of that of the row at a place
pub none_at : (f : Meaning → Bool) (values : List Meaning) (rows : List ℕ) (k : ℕ) → k < length rows
    → list_any f (picked_values values rows) ≡ false → f (get_or values (get_or rows k 0) Null) ≡ false
none_at f values [] k h e = absurd (omega arith)
none_at f values (row ∷ rows) zero h e =
    let both = neither (f (get_or values row Null)) (list_any f (picked_values values rows)) e in both.0
none_at f values (row ∷ rows) (suc k) h e =
    let both = neither (f (get_or values row Null)) (list_any f (picked_values values rows)) e in
    none_at f values rows k (omega arith) both.1
