-- Columns of answers.
use Rattle.std.proofs.Common.{◌≡◌, ℕ, zero, suc, ◌+◌, ◌-◌, ◌<◌, ◌≤◌, List, [], ◌∷◌, ◌++◌, length}
use Rattle.std.proofs.Common.{map, nat_lt, Result, IfOk, refl, sym, ap, ◌∙◌, arith}
use Rattle.std.specs.List.{range_with_len, filter}
use Rattle.std.specs.Fn.{Called, Mut}
use Rattle.std.specs.Vec.{vec_items}
use Rattle.std.specs.declared.vec.Vec.{Vec}
use Rattle.std.specs.declared.iter.Map.{Map}
use Rattle.std.specs.declared.ops.Range.{Range}
use Rattle.std.specs.Iterator.Adapters.{map_source, map_callee}
use Rattle.std.proofs.iter.Yields.{nat_range_steps}
use Rattle.std.proofs.lemmas.Result.{IfOk-weaker}
use Rattle.std.proofs.lemmas.Bool.Decides.{nat_tests}
use Rattle.std.proofs.lemmas.Iterator.{maps, IsCollectResult, YieldsList-from_range, YieldsList-from_map, items_from_collect}
use Rattle.wframe.specs.Places.{places_from, places}
use Rattle.wframe.specs.Partition.{Partition}
use Rattle.wplaces.specs.EachRow.{each_row}

same_answers : {X : Type 0} (f g : ℕ → X) (a n : ℕ) → ((j : ℕ) → a ≤ j → j < a + n → f j ≡ g j)
    → map f (range_with_len a n) ≡ map g (places_from a n)
same_answers f g a zero h = refl
same_answers f g a (suc n) h =
    ap (λ x. x ∷ map f (range_with_len (a + 1) n)) (h a (omega arith) (omega arith))
    ∙ ap (λ xs. g a ∷ xs) (same_answers f g (a + 1) n (λ j l m. h j (omega arith) (omega arith)))

-- what a closure gives for a range of rows is a column, where it gives each row's answer
pub column : {X F Z E : Type 0} {s : Map (Range ℕ) F} {g : Mut F (ℕ × Unit {0}) X} {f : F} (r : Result (Vec X Z) E)
    (p : Partition) (n : ℕ) (given answer : ℕ → X) →
    IsCollectResult (maps nat_range_steps g) s r → map_source s ≡ record { start = 0; end = n } → map_callee s ≡ f → n ≡ length p.keys →
    ((x : ℕ) (y : X) (q : F) → Called g f (x, tt) y q → (q ≡ f) × (y ≡ given x)) → ((j : ℕ) → j < length p.keys → given j ≡ answer j) →
    IfOk r (λ v. v.items ≡ each_row p answer)
column r p n given answer ran source callee e closure same =
    IfOk-weaker r (λ v. vec_items v ≡ map given (range_with_len 0 n)) (λ v. v.items ≡ each_row p answer)
    (λ v q. q ∙ ap (λ m. map given (range_with_len 0 m)) e ∙ same_answers given answer 0 (length p.keys) (λ j l m. same j (omega arith)))
    (items_from_collect r ran (YieldsList-from_map _ given (YieldsList-from_range 0 n n source (omega arith)) callee closure))

-- how many places lie before a place
pub length_before : (a n i : ℕ) → i ≤ a + n → length (filter (λ j. nat_lt j i) (places_from a n)) ≡ i - a
length_before a zero i h = omega arith
length_before a (suc n) i h = let e : length (filter (λ j. nat_lt j i) (places_from (a + 1) n)) ≡ i - (a + 1) =
    length_before (a + 1) n i (omega arith) in grind (arith, nat_tests)

pub number_is : (n i : ℕ) → i < n → i + 1 ≡ 1 + length (filter (λ j. nat_lt j i) (places n))
number_is n i h = omega (arith, length_before 0 n i (omega arith))

-- one row more
pub column_more : {X : Type 0} (f : ℕ → X) (a n j : ℕ) → a + n ≡ j → map f (places_from a (n + 1)) ≡ map f (places_from a n) ++ f j ∷ []
column_more f a zero j e = ap (λ k. f k ∷ []) (omega arith)
column_more f a (suc n) j e =
    let s : suc n + 1 ≡ suc (n + 1) = omega arith in
    ap (λ m. map f (places_from a m)) s ∙ ap (λ xs. f a ∷ xs) (column_more f (a + 1) n j (omega arith))

pub more_answers : {X : Type 0} (f : ℕ → X) (xs ys : List X) (n : ℕ) (x : X) → xs ≡ map f (places n) → ys ≡ xs ++ x ∷ []
    → x ≡ f n → ys ≡ map f (places (n + 1))
more_answers f xs ys n x given e same = e ∙ ap (λ zs. zs ++ x ∷ []) given ∙ ap (λ y. map f (places n) ++ y ∷ []) same
    ∙ sym (column_more f 0 n n (omega arith))
