-- Values that are put into cells, each at its place.
use Rattle.std.proofs.Common.{◌≡◌, ◌≢◌, ℕ, zero, suc, set, ◌+◌, ◌<◌, ◌≤◌, ◌==◌, ◌++◌, Bool, true, false, cond, List}
use Rattle.std.proofs.Common.{[], ◌∷◌, length, map, filter, drop, get_or, inl, inr, ◌⊎◌, refl, sym, ap, ◌∙◌, arith}
use Rattle.std.proofs.Math.ListN.{drop_of_length-le}
use Rattle.std.proofs.lemmas.Bool.Decides.{nat_tests}
use Rattle.std.proofs.lemmas.List.{get_or-map, length-set, get_or-set_same, get_or-set_other}
use Rattle.wvalues.specs.Meaning.{Meaning, Null}
use Rattle.wframe.specs.Places.{places_from, places}
use Rattle.wrows.proofs.RowFacts.{length-places}
use Rattle.wcalls.proofs.Answering.{HasEachOnce}
use Rattle.waggregate.specs.Put.{put_all}
use Rattle.wcalls.proofs.ArrangedFacts.{pointwise}
use Rattle.wcalls.proofs.WindowFacts.{all_places}

-- what is put is put part after part
pub put_append : (cells : List Meaning) (r s : List ℕ) (v u : List Meaning) → length r ≡ length v
    → put_all cells (r ++ s) (v ++ u) ≡ put_all (put_all cells r v) s u
put_append cells [] s [] u h = refl
put_append cells [] s (x ∷ v) u h = absurd (omega arith)
put_append cells (p ∷ r) s [] u h = absurd (omega arith)
put_append cells (p ∷ r) s (x ∷ v) u h = put_append (set cells p x) r s v u (omega arith)

pub put_long : (cells : List Meaning) (r : List ℕ) (v : List Meaning) → length (put_all cells r v) ≡ length cells
put_long cells [] v = refl
put_long cells (p ∷ r) [] = refl
put_long cells (p ∷ r) (x ∷ v) = put_long (set cells p x) r v ∙ length-set cells p x

place_is : (a n k d : ℕ) → k < n → get_or (places_from a n) k d ≡ a + k
place_is a zero k d h = absurd (omega arith)
place_is a (suc n) zero d h = omega arith
place_is a (suc n) (suc k) d h = place_is (a + 1) n k d (omega arith) ∙ omega arith

-- what is answered for a place
pub answer_at : (f : ℕ → Meaning) (n k : ℕ) → k < n → f k ≡ get_or (map f (places n)) k Null
answer_at f n k h = let z : 0 + k ≡ k = omega arith in
    sym (get_or-map f (places n) k 0 Null (omega (arith, h, length-places 0 n)) ∙ ap f (place_is 0 n k 0 h ∙ z))

-- all values
pub all_values : {X : Type 0} (meant : X → Meaning) (rows : List ℕ) (values : List Meaning) (k : ℕ) (cells : List X)
    (end : List Meaning) → length rows ≤ k → put_all (map meant cells) (drop k rows) (drop k values) ≡ end → map meant cells ≡ end
all_values meant rows values k cells end h is = sym (ap (λ r. put_all (map meant cells) r (drop k values)) (drop_of_length-le rows h)) ∙ is

-- a number that stands in the list has what is meant there
put_at : (of : ℕ → Meaning) (i : ℕ) (rows : List ℕ) (cells : List Meaning) → i < length cells → (get_or cells i Null ≡ of i)
    ⊎ (filter (λ k. k == i) rows ≡ i ∷ []) → get_or (put_all cells rows (map of rows)) i Null ≡ of i
put_at of i [] cells h (inl e) = e
put_at of i [] cells h (inr e) = absurd (cc)
put_at of i (r ∷ rs) cells h known = go (r == i) refl known (put_at of i rs (set cells r (of r))
    (omega (arith, h, length-set cells r (of r))))
  where
    result : Meaning
    result = get_or (put_all (set cells r (of r)) rs (map of rs)) i Null

    go : (b : Bool) → (r == i) ≡ b → (get_or cells i Null ≡ of i)
        ⊎ (cond b (r ∷ filter (λ k. k == i) rs) (filter (λ k. k == i) rs) ≡ i ∷ [])
        → ((get_or (set cells r (of r)) i Null ≡ of i) ⊎ (filter (λ k. k == i) rs ≡ i ∷ []) → result ≡ of i) → result ≡ of i
    go true e either more =
        let same : r ≡ i = grind (arith, nat_tests) in
        more (inl (ap (λ k. get_or (set cells k (of k)) i Null) same ∙ get_or-set_same cells i (of i) Null h))
    go false e (inl known) more =
        let other : i ≢ r = grind (arith, nat_tests) in
        more (inl (get_or-set_other cells r i (of r) Null other ∙ known))
    go false e (inr later) more = more (inr later)

-- what is put at each number once is what is meant for each number
pub put_each : (of : ℕ → Meaning) (rows : List ℕ) (cells : List Meaning) → HasEachOnce (length rows) rows
    → length cells ≡ length rows → put_all cells rows (map of rows) ≡ map of (places (length rows))
put_each of rows cells once long =
    let column = put_all cells rows (map of rows) in
    sym (all_places Null column)
    ∙ ap (λ n. map (λ j. get_or column j Null) (places n)) (put_long cells rows (map of rows) ∙ long)
    ∙ pointwise (λ j. get_or column j Null) of 0 0 (length rows) (λ j l. put_at of (0 + j) rows cells
    (omega (arith, l, long)) (inr (once (0 + j) (omega arith))))

-- one value more, of those that are put one after another
pub filled_next : (cells values : List Meaning) (k : ℕ) (value : Meaning) → k < length cells → value ≡ get_or values k Null
    → ((j : ℕ) → j < k → get_or cells j Null ≡ get_or values j Null)
    → (j : ℕ) → j < k + 1 → get_or (set cells k value) j Null ≡ get_or values j Null
filled_next cells values k value here is before j h = go (j == k) refl
  where
    go : (b : Bool) → (j == k) ≡ b → get_or (set cells k value) j Null ≡ get_or values j Null
    go true e =
        let same : j ≡ k = grind (arith, nat_tests) in
        ap (λ i. get_or (set cells k value) i Null) same ∙ get_or-set_same cells k value Null here ∙ is
        ∙ ap (λ i. get_or values i Null) (sym same)
    go false e =
        let other : j ≢ k = grind (arith, nat_tests) in
        let less : j < k = grind (arith, nat_tests) in
        get_or-set_other cells k j value Null other ∙ before j less

-- values of which each is there
pub all_filled : (cells values : List Meaning) → length cells ≡ length values
    → ((j : ℕ) → j < length values → get_or cells j Null ≡ get_or values j Null) → cells ≡ values
all_filled cells values long each =
    sym (all_places Null cells)
    ∙ ap (λ n. map (λ j. get_or cells j Null) (places n)) long
    ∙ pointwise (λ j. get_or cells j Null) (λ j. get_or values j Null) 0 0 (length values) (λ j h. each (0 + j) (omega (arith, h)))
    ∙ all_places Null values
