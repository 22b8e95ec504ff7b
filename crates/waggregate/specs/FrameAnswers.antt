-- Aggregates over frames, of which the rows are given by number.
use Rattle.std.specs.Prelude.{◌≡◌, ◌++◌, ◌-◌, ℕ, Bool, List, map, length, Option, Some, None, OnOk}
use Rattle.std.specs.Prelude.{Result, Ok, Err, slice_index_or, slice_range, unwrap_or}
use Rattle.std.specs.List.{flat_map, list_any}
use Rattle.std.specs.Option.{is_none}
use Rattle.wvalues.specs.declared.value.Value.{Value}
use Rattle.wvalues.specs.Meaning.{Meaning, Null, meaning}
use Rattle.wframe.specs.declared.frame.Span.{Span}
use Rattle.wframe.specs.Partition.{Partition, Partitioned, partition_of}
use Rattle.wframe.specs.Places.{places}
use Rattle.wframe.specs.Frame.{frame_rows}
use Rattle.wslide.specs.Aggregates.{picked_values, picked_tests}
use Rattle.wplan.specs.declared.resolved.AggregateFunction.{AggregateFunction}
use Rattle.wrows.specs.declared.fault.AnswerFault.{AnswerFault}
use Rattle.wrows.specs.declared.fault.AnswerFault.TheVariants.{OutOfRange}
use Rattle.wrows.specs.Outcomes.{Gives, unless}
use Rattle.waggregate.specs.Aggregating.{Feed, aggregate_of}
use Rattle.waggregate.specs.Put.{put_all}

-- what the rows of these numbers feed, in that order
pub record IsPicked (feed : Feed) (rows : List ℕ) (values : List Meaning) (filter : Option (List Bool)) : Type 0 where
  pub picked : values ≡ picked_values feed.values rows
  pub tested : filter ≡ picked_tests feed.filter rows

-- the rows, by number, of the frame of a place of a partition
abbrev pub frame_numbers : Partition → List ℕ → ℕ → List ℕ
frame_numbers p rows place = map (λ j. slice_index_or rows j 0) (frame_rows p place)

-- the aggregate of each row's frame in a partition, in its order; none where it is out of range
abbrev pub frame_answers : AggregateFunction → Feed → Partition → List ℕ → List (Option Meaning)
frame_answers function feed p rows = map (λ place. aggregate_of function feed (frame_numbers p rows place)) (places (length p.keys))

-- the same, one partition after another
abbrev pub window_answers : AggregateFunction → Feed → Partitioned → List ℕ → List (Option Meaning)
window_answers function feed all rows = flat_map (λ s. frame_answers function feed (partition_of all s)
    (slice_range rows s.from s.to)) all.spans

-- the same of some partitions, of which the first begins at a place, where the rows are those of these partitions alone
abbrev pub batch_answers : AggregateFunction → Feed → Partitioned → ℕ → List Span → List ℕ → List (Option Meaning)
batch_answers function feed all start spans rows = flat_map (λ s. frame_answers function feed (partition_of all s)
    (slice_range rows (s.from - start) (s.to - start))) spans

-- the values that results have
abbrev pub values_or_null : List (Option Meaning) → List Meaning
values_or_null = map (λ r. unwrap_or r Null)

-- a result, which may be out of range
abbrev pub answer_or_out_of_range : Option Meaning → Result Meaning AnswerFault
answer_or_out_of_range None = Err OutOfRange
answer_or_out_of_range (Some m) = Ok m

-- what a call comes to that appends the values of results: it is out of range where one of them is so
pub record Appends (results : List (Option Meaning)) (outcome : Result (Unit {0}) AnswerFault) (old new : List Value) : Type 0 where
  pub gives : Gives {X = Unit {0}} {Y = Unit {0}} (λ u. u) outcome (unless (list_any is_none results) OutOfRange (tt {0}))
  pub added : OnOk outcome (map meaning new ≡ map meaning old ++ values_or_null results)

-- what a call comes to that puts the values of results at the numbers of rows: it is out of range where one of them is so
pub record Puts (results : List (Option Meaning)) (rows : List ℕ) (outcome : Result (Unit {0}) AnswerFault)
    (old new : List Value) : Type 0 where
  pub gives : Gives {X = Unit {0}} {Y = Unit {0}} (λ u. u) outcome (unless (list_any is_none results) OutOfRange (tt {0}))
  pub put : OnOk outcome (map meaning new ≡ put_all (map meaning old) rows (values_or_null results))
