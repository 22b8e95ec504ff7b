-- The folds of columns that were picked in the order of a batch are the answers of its partitions.
use Rattle.std.proofs.Common.{◌≡◌, ℕ, pos, ◌+◌, ◌<◌, ◌^◌, Bool, List, length, map, Option, Some, None, Ordering, ap, ◌∙◌, arith}
use Rattle.std.specs.Prelude.{All}
use Rattle.std.specs.List.{AllByRecursion}
use Rattle.std.specs.Cmp.{IsTotalOrder}
use Rattle.std.proofs.lemmas.List.Sums.{count_by-le-length}
use Rattle.std.proofs.Common.{get_or}
use Rattle.wvalues.specs.Meaning.{Meaning, Int}
use Rattle.wframe.specs.declared.frame.Span.{Span}
use Rattle.wframe.specs.Partition.{Partitioned}
use Rattle.wframe.specs.Sorting.{sorted}
use Rattle.wslide.specs.Aggregates.{fed, is_value, picked_values, picked_tests, count_of, count_of_rows, sum_or_none, IsInRange}
use Rattle.wslide.specs.Counts.{counts_joined, count_at}
use Rattle.wslide.specs.Frames.{folds_of_spans}
use Rattle.wslide.specs.Laws.{rows_fold}
use Rattle.wslide.specs.Leasts.{leasts_joined, place_at}
use Rattle.wslide.specs.Sums.{sum_part, sums_joined}
use Rattle.wplan.specs.declared.resolved.AggregateFunction.{AggregateFunction}
use Rattle.wplan.specs.declared.resolved.AggregateFunction.TheVariants.{CountRows, Count, Sum}
use Rattle.waggregate.specs.Aggregating.{Feed, aggregate_of, fed_values, first_or_null, sum_answer, value_or_null}
use Rattle.waggregate.specs.FrameAnswers.{batch_answers}
use Rattle.waggregate.proofs.BatchFacts.{IsInside}
use Rattle.waggregate.proofs.LeastFacts.{FirstLaw}
use Rattle.waggregate.proofs.FrameFacts.{FeedLaw, RowsLaw, CountLaw, PickedSumLaw, LeastLaw}
use Rattle.waggregate.proofs.FrameFacts.{counted_rows, counted_values, summed, first_valued}
use Rattle.waggregate.proofs.WindowFacts.{BelowLaw, FewLaw, answers_alike}

-- what the folds of counts and sums come to, as laws have it
abbrev pub CountedRowsLaw : Type 0
CountedRowsLaw = (filter : Option (List Bool)) (rows : List ℕ) → length rows < 2 ^ 64
    → rows_fold 0 counts_joined (count_at None filter) rows ≡ count_of_rows filter rows

abbrev pub CountedLaw : Type 0
CountedLaw = (values : List Meaning) (filter : Option (List Bool)) (rows : List ℕ) → length rows < 2 ^ 64
    → rows_fold 0 counts_joined (count_at (Some values) filter) rows ≡ count_of (fed values filter) rows

abbrev pub SummedLaw : Type 0
SummedLaw = (feed : ℕ → Meaning) (rows : List ℕ) → count_of feed rows < 2 ^ 31 → All (λ row. IsInRange (feed row)) rows
    → rows_fold None sums_joined (λ row. sum_part (feed row)) rows ≡ sum_or_none feed rows

module _ (all : Partitioned) (start : ℕ) (spans : List Span) (feed : Feed) (rows : List ℕ)
    (inside : AllByRecursion (IsInside start (start + length rows)) spans) (small : length rows < 2 ^ 31) (below : BelowLaw)
    (few : FewLaw) (near : List Meaning) (near_tests : Option (List Bool)) (picked : near ≡ picked_values feed.values rows)
    (tested : near_tests ≡ picked_tests feed.filter rows) where
  pub row_counts_alike : CountedRowsLaw → RowsLaw
      → map (λ n. Some (Int (pos n))) (folds_of_spans 0 counts_joined (count_at None near_tests) all start spans)
      ≡ batch_answers CountRows feed all start spans rows
  row_counts_alike counted law =
      answers_alike all start spans rows inside below few 0 counts_joined (count_at None near_tests) (λ n. Some (Int (pos n)))
      CountRows feed (λ ps inside fits. ap (λ n. Some (Int (pos n))) (counted near_tests ps (omega (arith, small))
      ∙ counted_rows rows law feed.filter near_tests tested ps inside))

  pub value_counts_alike : CountedLaw → CountLaw
      → map (λ n. Some (Int (pos n))) (folds_of_spans 0 counts_joined (count_at (Some near) near_tests) all start spans)
      ≡ batch_answers Count feed all start spans rows
  value_counts_alike counted law =
      answers_alike all start spans rows inside below few 0 counts_joined (count_at (Some near) near_tests)
      (λ n. Some (Int (pos n))) Count feed
      (λ ps inside fits. ap (λ n. Some (Int (pos n))) (counted near near_tests ps (omega (arith, small))
      ∙ counted_values rows feed.values feed.filter near near_tests picked tested law ps inside))

  pub sums_alike : SummedLaw → FeedLaw → PickedSumLaw → ((row : ℕ) → IsInRange (fed near near_tests row))
      → map sum_answer (folds_of_spans None sums_joined (λ row. sum_part (fed near near_tests row)) all start spans)
      ≡ batch_answers Sum feed all start spans rows
  sums_alike exact feed_law sum_law in_range =
      answers_alike all start spans rows inside below few None sums_joined (λ row. sum_part (fed near near_tests row)) sum_answer Sum feed
      (λ ps inside fits. ap sum_answer (exact (fed near near_tests) ps
      (omega (arith, small, count_by-le-length (λ row. is_value (fed near near_tests row)) ps)) (λ k d h. in_range (get_or ps k d)))
      ∙ summed rows feed.values feed.filter near near_tests picked tested feed_law sum_law ps inside)

  pub firsts_alike : FeedLaw → FirstLaw → (order : Meaning → Meaning → Ordering) → IsTotalOrder order → LeastLaw order
      → (function : AggregateFunction) → ((rs : List ℕ) → Some (first_or_null (sorted order (fed_values feed rs)))
      ≡ aggregate_of function feed rs)
      → map (λ place. Some (value_or_null near place)) (folds_of_spans None (leasts_joined order near)
      (place_at near near_tests) all start spans) ≡ batch_answers function feed all start spans rows
  firsts_alike feed_law first_law order total least_law function is =
      answers_alike all start spans rows inside below few None (leasts_joined order near) (place_at near near_tests)
      (λ place. Some (value_or_null near place)) function feed
      (λ ps inside fits. ap (λ m. Some m) (first_valued rows feed.values feed.filter near near_tests picked tested feed_law
      first_law order total least_law ps inside) ∙ is (map (λ j. get_or rows j 0) ps))
