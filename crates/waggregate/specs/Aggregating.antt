-- Aggregates of some of the rows, given by their numbers (<aggregate function>, <filter clause>).
use Rattle.std.specs.Prelude.{ℕ, ℤ, pos, Bool, List, [], ◌∷◌, map, filter, slice_index_or, Option, None, Some, Result, Ok, option_map}
use Rattle.wvalues.specs.Meaning.{Meaning, Null, Int}
use Rattle.wvalues.specs.Whole.{if_whole}
use Rattle.wslide.specs.Aggregates.{fed, is_value, count_of_rows, count_of, sum_of, by_value, by_value_descending}
use Rattle.wplan.specs.declared.resolved.AggregateFunction.{AggregateFunction}
use Rattle.wplan.specs.declared.resolved.AggregateFunction.TheVariants.{CountRows, Count, Sum, Min, Max}
use Rattle.wplan.specs.Plans.{AggregatePlan}
use Rattle.wrows.specs.declared.fault.AnswerFault.{AnswerFault}
use Rattle.wrows.specs.Outcomes.{◌>>=◌}
use Rattle.wframe.specs.Sorting.{sorted}
use Rattle.wrows.specs.Columns.{Row, column_of, filter_of}

-- an aggregate's argument on each row, and whether its filter is true there, if it has one
pub record Feed : Type 0 where
  pub values : List Meaning
  pub filter : Option (List Bool)

-- the argument is evaluated also where the filter is not true
abbrev pub feed_of : AggregatePlan → List Row → Result Feed AnswerFault
feed_of a rows = do
  values ← column_of a.argument rows
  filter ← filter_of a.filter rows
  Ok (record { values = values; filter = filter })

-- what the rows of these numbers feed
abbrev pub fed_values : Feed → List ℕ → List Meaning
fed_values f rows = filter is_value (map (fed f.values f.filter) rows)

-- the first of some values, null where there is none
abbrev pub first_or_null : List Meaning → Meaning
first_or_null [] = Null
first_or_null (v ∷ vs) = v

-- the sum of some values, null where there is none; the result alone is tested against the range
abbrev pub sum_or_null : List Meaning → ℤ → Option Meaning
sum_or_null [] sum = Some Null
sum_or_null (v ∷ vs) sum = option_map (λ z. Int z) (if_whole sum)

-- a sum that may be none, as a value; null where it is none, out of range where it is so
abbrev pub sum_answer : Option ℤ → Option Meaning
sum_answer None = Some Null
sum_answer (Some z) = option_map (λ z. Int z) (if_whole z)

-- the value at a place, null where there is none
abbrev pub value_or_null : List Meaning → Option ℕ → Meaning
value_or_null values None = Null
value_or_null values (Some i) = slice_index_or values i Null

-- an aggregate of the rows of these numbers; none where it is out of range
abbrev pub aggregate_of : AggregateFunction → Feed → List ℕ → Option Meaning
aggregate_of CountRows f rows = Some (Int (pos (count_of_rows f.filter rows)))
aggregate_of Count f rows = Some (Int (pos (count_of (fed f.values f.filter) rows)))
aggregate_of Sum f rows = sum_or_null (fed_values f rows) (sum_of (fed f.values f.filter) rows)
aggregate_of Min f rows = Some (first_or_null (sorted by_value (fed_values f rows)))
aggregate_of Max f rows = Some (first_or_null (sorted by_value_descending (fed_values f rows)))
