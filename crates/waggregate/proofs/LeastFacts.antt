-- The place of a least value has the first of the sorted values.
use Rattle.std.proofs.Common.{◌≡◌, ℕ, Bool, true, false, cond, List, [], ◌∷◌, ◌++◌, map, filter, get_or}
use Rattle.std.proofs.Common.{Option, Some, None, Ordering, is_lt, is_gt, refl, sym, ap, ◌∙◌}
use Rattle.std.specs.Prelude.{All}
use Rattle.std.specs.List.{AllByRecursion}
use Rattle.std.specs.Cmp.{IsTotalOrder}
use Rattle.std.proofs.lemmas.List.{map-append}
use Rattle.std.proofs.lemmas.List.Elements.{recursion_from_All, All-from_recursion, filter-append}
use Rattle.wvalues.specs.Meaning.{Meaning, Null}
use Rattle.wframe.specs.Sorting.{sorted, first_or}
use Rattle.wslide.specs.Aggregates.{fed, is_value, passes, IsLeast}
use Rattle.waggregate.specs.Aggregating.{first_or_null, value_or_null}

abbrev values_of : (ℕ → Meaning) → List ℕ → List Meaning
values_of feed rows = filter is_value (map feed rows)

same_first : (xs : List Meaning) → first_or_null xs ≡ first_or Null xs
same_first [] = refl
same_first (x ∷ xs) = refl

no_values : (feed : ℕ → Meaning) (rows : List ℕ) → AllByRecursion (λ row. is_value (feed row) ≡ false) rows → values_of feed rows ≡ []
no_values feed [] all = refl
no_values feed (row ∷ rows) all = rw all.0 (no_values feed rows all.1)

-- what holds of each value that is fed
each_value : (feed : ℕ → Meaning) (P : Meaning → Type 0) (rows : List ℕ) → AllByRecursion (λ row. is_value (feed row) ≡ true
    → P (feed row)) rows → AllByRecursion P (values_of feed rows)
each_value feed P [] all = tt
each_value feed P (row ∷ rows) all = go (is_value (feed row)) refl (each_value feed P rows all.1)
  where
    go : (b : Bool) → is_value (feed row) ≡ b → AllByRecursion P (values_of feed rows)
        → AllByRecursion P (cond b (feed row ∷ values_of feed rows) (values_of feed rows))
    go true e more = (all.0 e, more)
    go false e more = more

own : (b : Bool) (v : Meaning) → is_value (cond b v Null) ≡ true → cond b v Null ≡ v
own true v h = refl
own false v h = absurd (cc)

-- the first of sorted values, as a law has it
abbrev pub FirstLaw : Type 0
FirstLaw = (cmp : Meaning → Meaning → Ordering) (none x : Meaning) (left right : List Meaning) → IsTotalOrder cmp
    → All (λ y. is_lt (cmp x y) ≡ true) left → All (λ y. is_gt (cmp x y) ≡ false) right → first_or none (sorted cmp (left ++ x ∷ right)) ≡ x

pub least_value : FirstLaw → (order : Meaning → Meaning → Ordering) → IsTotalOrder order
    → (values : List Meaning) (tests : Option (List Bool)) (rows : List ℕ) (place : Option ℕ) → IsLeast order (fed values tests) rows place
    → value_or_null values place ≡ first_or_null (sorted order (filter is_value (map (fed values tests) rows)))
least_value law order total values tests rows None least =
    sym (ap (λ xs. first_or_null (sorted order xs))
    (no_values (fed values tests) rows (recursion_from_All (λ row. is_value (fed values tests row) ≡ false) rows least)))
least_value law order total values tests rows (Some i) (left, right, b) =
    let feed : ℕ → Meaning = fed values tests in
    let cut : values_of feed rows ≡ values_of feed left ++ feed i ∷ values_of feed right =
    ap (values_of feed) b.cut ∙ ap (filter is_value) (map-append feed left (i ∷ right))
    ∙ filter-append is_value (map feed left) (feed i ∷ map feed right)
    ∙ ap (λ b. values_of feed left ++ cond b (feed i ∷ values_of feed right) (values_of feed right)) b.feeds in
    sym (ap (λ xs. first_or_null (sorted order xs)) cut
    ∙ same_first (sorted order (values_of feed left ++ feed i ∷ values_of feed right))
    ∙ law order Null (feed i) (values_of feed left) (values_of feed right) total
    (All-from_recursion (λ a. is_lt (order (feed i) a) ≡ true) (values_of feed left)
    (each_value feed (λ a. is_lt (order (feed i) a) ≡ true) left (recursion_from_All (λ row. is_value (feed row) ≡ true
    → is_lt (order (feed i) (feed row)) ≡ true) left b.before)))
    (All-from_recursion (λ a. is_gt (order (feed i) a) ≡ false) (values_of feed right)
    (each_value feed (λ a. is_gt (order (feed i) a) ≡ false) right (recursion_from_All (λ row. is_value (feed row)
    ≡ true → is_gt (order (feed i) (feed row)) ≡ false) right b.after)))
    ∙ own (passes tests i) (get_or values i Null) b.feeds)
