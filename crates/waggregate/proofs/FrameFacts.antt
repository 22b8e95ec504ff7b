-- What is fed by place is what is fed by number.
use Rattle.std.proofs.Common.{◌≡◌, ℕ, ◌<◌, Bool, List, length, map, filter, get_or, Option, None, Ordering, ap, ◌∙◌}
use Rattle.std.specs.Prelude.{All}
use Rattle.std.specs.Cmp.{IsTotalOrder}
use Rattle.wvalues.specs.Meaning.{Meaning}
use Rattle.wframe.specs.Sorting.{sorted}
use Rattle.wslide.specs.Aggregates.{fed, is_value, picked_values, picked_tests, count_of, count_of_rows, sum_of, sum_or_none, IsLeast}
use Rattle.wslide.specs.Laws.{rows_fold}
use Rattle.wslide.specs.Leasts.{leasts_joined, place_at}
use Rattle.waggregate.specs.Aggregating.{first_or_null, sum_answer, sum_or_null, value_or_null}
use Rattle.waggregate.proofs.FoldFacts.{sum_as_answer, values_alike}
use Rattle.waggregate.proofs.LeastFacts.{FirstLaw, least_value}

-- what is fed alike, as laws have it
abbrev pub FeedLaw : Type 0
FeedLaw = (values : List Meaning) (tests : Option (List Bool)) (rows : List ℕ) (place : ℕ) → place < length rows
    → fed (picked_values values rows) (picked_tests tests rows) place ≡ fed values tests (get_or rows place 0)

abbrev pub RowsLaw : Type 0
RowsLaw = (tests : Option (List Bool)) (rows places : List ℕ) → All (λ place. place < length rows) places
    → count_of_rows (picked_tests tests rows) places ≡ count_of_rows tests (map (λ place. get_or rows place 0) places)

abbrev pub CountLaw : Type 0
CountLaw = (values : List Meaning) (tests : Option (List Bool)) (rows places : List ℕ)
    → All (λ place. place < length rows) places → count_of (fed (picked_values values rows) (picked_tests tests rows))
    places ≡ count_of (fed values tests) (map (λ place. get_or rows place 0) places)

abbrev pub PickedSumLaw : Type 0
PickedSumLaw = (values : List Meaning) (tests : Option (List Bool)) (rows places : List ℕ)
    → All (λ place. place < length rows) places → sum_of (fed (picked_values values rows) (picked_tests tests rows)) places
    ≡ sum_of (fed values tests) (map (λ place. get_or rows place 0) places)

abbrev pub LeastLaw : (Meaning → Meaning → Ordering) → Type 0
LeastLaw order = (values : List Meaning) (tests : Option (List Bool)) (rows : List ℕ)
    → IsLeast order (fed values tests) rows (rows_fold None (leasts_joined order values) (place_at values tests) rows)

-- the rows of some places, by number
abbrev pub numbers_at : List ℕ → List ℕ → List ℕ
numbers_at rows places = map (λ j. get_or rows j 0) places

pub counted_rows : (rows : List ℕ) → RowsLaw → (tests near : Option (List Bool)) → near ≡ picked_tests tests rows
    → (places : List ℕ) → All (λ j. j < length rows) places → count_of_rows near places ≡ count_of_rows tests (numbers_at rows places)
counted_rows rows law tests near e places below = ap (λ ts. count_of_rows ts places) e ∙ law tests rows places below

module _ (rows : List ℕ) (values : List Meaning) (tests : Option (List Bool)) (near : List Meaning)
    (near_tests : Option (List Bool)) (picked : near ≡ picked_values values rows) (tested : near_tests ≡ picked_tests tests rows) where
  pub counted_values : CountLaw → (places : List ℕ) → All (λ j. j < length rows) places
      → count_of (fed near near_tests) places ≡ count_of (fed values tests) (numbers_at rows places)
  counted_values law places below =
      ap (λ vs. count_of (fed vs near_tests) places) picked
      ∙ ap (λ ts. count_of (fed (picked_values values rows) ts) places) tested
      ∙ law values tests rows places below

  fed_near : FeedLaw → (place : ℕ) → place < length rows → fed near near_tests place ≡ fed values tests (get_or rows place 0)
  fed_near law place h =
      ap (λ vs. fed vs near_tests place) picked
      ∙ ap (λ ts. fed (picked_values values rows) ts place) tested
      ∙ law values tests rows place h

  values_near : FeedLaw → (places : List ℕ) → All (λ j. j < length rows) places
      → filter is_value (map (fed near near_tests) places) ≡ filter is_value (map (fed values tests) (numbers_at rows places))
  values_near law places below = values_alike (fed near near_tests) (fed values tests) (λ j. get_or rows j 0) (length rows)
      places (fed_near law) below

  sums_near : PickedSumLaw → (places : List ℕ) → All (λ j. j < length rows) places → sum_of (fed near near_tests) places
      ≡ sum_of (fed values tests) (numbers_at rows places)
  sums_near law places below =
      ap (λ vs. sum_of (fed vs near_tests) places) picked
      ∙ ap (λ ts. sum_of (fed (picked_values values rows) ts) places) tested
      ∙ law values tests rows places below

  pub summed : FeedLaw → PickedSumLaw → (places : List ℕ) → All (λ j. j < length rows) places
      → sum_answer (sum_or_none (fed near near_tests) places)
      ≡ sum_or_null (filter is_value (map (fed values tests) (numbers_at rows places)))
      (sum_of (fed values tests) (numbers_at rows places))
  summed feed_law sum_law places below =
      sum_as_answer (fed near near_tests) places (sum_of (fed near near_tests) places)
      ∙ ap (λ l. sum_or_null l (sum_of (fed near near_tests) places)) (values_near feed_law places below)
      ∙ ap (λ z. sum_or_null (filter is_value (map (fed values tests) (numbers_at rows places))) z) (sums_near sum_law places below)

  pub first_valued : FeedLaw → FirstLaw → (order : Meaning → Meaning → Ordering) → IsTotalOrder order → LeastLaw order
      → (places : List ℕ) → All (λ j. j < length rows) places
      → value_or_null near (rows_fold None (leasts_joined order near) (place_at near near_tests) places)
      ≡ first_or_null (sorted order (filter is_value (map (fed values tests) (numbers_at rows places))))
  first_valued feed_law first_law order total least_law places below =
      least_value first_law order total near near_tests places (rows_fold None (leasts_joined order near)
      (place_at near near_tests) places) (least_law near near_tests places)
      ∙ ap (λ l. first_or_null (sorted order l)) (values_near feed_law places below)
