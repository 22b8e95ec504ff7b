-- Columns that were picked for some rows.
use Rattle.std.proofs.Common.{◌≡◌, ℕ, ◌+◌, ◌<◌, ◌+ℤ◌, Bool, false, cond, List, [], ◌∷◌}
use Rattle.std.proofs.Common.{length, map, get_or, Option, Some, None, refl, ap, ◌∙◌}
use Rattle.std.specs.List.{AllByRecursion, fold}
use Rattle.std.proofs.lemmas.List.{get_or-map}
use Rattle.wvalues.specs.Meaning.{Meaning, Null}
use Rattle.wslide.specs.Aggregates.{passes, fed, is_value, number_of, sum_of, count_of, count_of_rows, picked_values, picked_tests}

pub passes_alike : (filter : Option (List Bool)) (rows : List ℕ) (place : ℕ) → place < length rows
    → passes (picked_tests filter rows) place ≡ passes filter (get_or rows place 0)
passes_alike None rows place h = refl
passes_alike (Some tests) rows place h = get_or-map (λ row. get_or tests row false) rows place 0 false h

pub fed_alike : (values : List Meaning) (filter : Option (List Bool)) (rows : List ℕ) (place : ℕ) → place < length rows
    → fed (picked_values values rows) (picked_tests filter rows) place ≡ fed values filter (get_or rows place 0)
fed_alike values filter rows place h =
    ap (λ b. cond b (get_or (picked_values values rows) place Null) Null) (passes_alike filter rows place h)
    ∙ ap (λ v. cond (passes filter (get_or rows place 0)) v Null) (get_or-map (λ row. get_or values row Null) rows place 0 Null h)

counted_alike : (p q : ℕ → Bool) (f : ℕ → ℕ) (start n : ℕ) (xs : List ℕ) → ((x : ℕ) → x < n → p x ≡ q (f x))
    → AllByRecursion (λ x. x < n) xs → fold (λ a x. a + cond (p x) 1 0) start xs ≡ fold (λ a x. a + cond (q x) 1 0) start (map f xs)
counted_alike p q f start n [] same all = refl
counted_alike p q f start n (x ∷ xs) same all =
    ap (λ b. fold (λ a x. a + cond (p x) 1 0) (start + cond b 1 0) xs) (same x all.0)
    ∙ counted_alike p q f (start + cond (q (f x)) 1 0) n xs same all.1

pub count_alike : (values : List Meaning) (filter : Option (List Bool)) (rows places : List ℕ)
    → AllByRecursion (λ place. place < length rows) places
    → count_of (fed (picked_values values rows) (picked_tests filter rows)) places ≡ count_of (fed values filter)
    (map (λ place. get_or rows place 0) places)
count_alike values filter rows places all =
    counted_alike (λ x. is_value (fed (picked_values values rows) (picked_tests filter rows) x))
    (λ x. is_value (fed values filter x)) (λ place. get_or rows place 0) 0 (length rows) places
    (λ x h. ap is_value (fed_alike values filter rows x h)) all

pub rows_alike : (filter : Option (List Bool)) (rows places : List ℕ) → AllByRecursion (λ place. place < length rows) places
    → count_of_rows (picked_tests filter rows) places ≡ count_of_rows filter (map (λ place. get_or rows place 0) places)
rows_alike filter rows places all =
    counted_alike (passes (picked_tests filter rows)) (passes filter) (λ place. get_or rows place 0) 0 (length rows) places
    (passes_alike filter rows) all

pub sum_alike : (values : List Meaning) (filter : Option (List Bool)) (rows places : List ℕ)
    → AllByRecursion (λ place. place < length rows) places
    → sum_of (fed (picked_values values rows) (picked_tests filter rows)) places ≡ sum_of (fed values filter)
    (map (λ place. get_or rows place 0) places)
sum_alike values filter rows [] all = refl
sum_alike values filter rows (place ∷ places) all =
    ap (λ v. number_of v +ℤ sum_of (fed (picked_values values rows) (picked_tests filter rows)) places)
    (fed_alike values filter rows place all.0)
    ∙ ap (λ z. number_of (fed values filter (get_or rows place 0)) +ℤ z) (sum_alike values filter rows places all.1)
