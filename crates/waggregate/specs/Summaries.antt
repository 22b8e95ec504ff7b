-- What the rows of a group come to, kept so that each aggregate of them can be answered.
use Rattle.std.specs.Prelude.{◌≡◌, ℕ, pos, ◌<◌, ◌==◌, Bool, true, false, List}
use Rattle.std.specs.Prelude.{length, map, filter, Option, Some, None, slice_index_or, if◌then◌else◌}
use Rattle.std.specs.Ordering.{is_lt}
use Rattle.std.specs.declared.cmp.Ordering.{Ordering}
use Rattle.std.specs.Borrow.{Bor}
use Rattle.std.specs.declared.alloc.Global.{Global}
use Rattle.std.specs.declared.vec.Vec.{Vec}
use Rattle.wvalues.specs.Meaning.{Meaning, Null, Int, Text, meaning, text_in}
use Rattle.wplan.specs.declared.resolved.AggregateFunction.{AggregateFunction}
use Rattle.wplan.specs.declared.resolved.AggregateFunction.TheVariants.{CountRows, Count, Sum, Min, Max}
use Rattle.wframe.specs.Places.{places}
use Rattle.wslide.specs.Aggregates.{by_value, by_value_descending, fed, is_value}
use Rattle.wslide.specs.Counts.{count_at, counts_joined}
use Rattle.wslide.specs.Laws.{rows_fold}
use Rattle.wslide.specs.Sums.{sum_part, sums_joined}
use Rattle.waggregate.specs.Aggregating.{aggregate_of, sum_answer}
use Rattle.waggregate.specs.Grouped.{rows_of_group}
use Rattle.waggregate.specs.declared.lent_text.LentText.{LentText}
use Rattle.waggregate.specs.declared.summaries.Extremes.{Extremes}
use Rattle.waggregate.specs.declared.summaries.First.{First}
use Rattle.waggregate.specs.declared.summaries.First.TheVariants as firsts
use Rattle.waggregate.specs.declared.summaries.Summary.{Summary}
use Rattle.waggregate.specs.declared.summaries.Summaries.{Summaries}

-- the value that is lent as a text
abbrev pub text_of : LentText → Meaning
text_of text = Text (text_in (meaning text.value.now))

-- the value that stands first
abbrev pub value_in : First → Meaning
value_in firsts.Null = Null
value_in (firsts.Number n) = Int n
value_in (firsts.Text text) = text_of text

-- of two values the one that stands first, the left one if they are equal
abbrev pub first_in : (Meaning → Meaning → Ordering) → Meaning → Meaning → Meaning
first_in order left right = if is_lt (order right left) then right else left

-- a summary of no row
pub record IsEmpty (s : Summary) : Type 0 where
  pub rows : s.rows ≡ 0
  pub values : s.values ≡ 0
  pub sum : s.sum ≡ None
  pub least : value_in s.least ≡ Null
  pub greatest : value_in s.greatest ≡ Null

-- a summary of the rows of another one, and of a row with this value, in which these extremes are looked for
pub record IsWith (e : Extremes) (value : Meaning) (old new : Summary) : Type 0 where
  pub values : new.values ≡ (if is_value value then counts_joined old.values 1 else old.values)
  pub sum : new.sum ≡ sums_joined old.sum (sum_part value)
  pub least : e.least ≡ true → value_in new.least ≡ first_in by_value (value_in old.least) value
  pub greatest : e.greatest ≡ true → value_in new.greatest ≡ first_in by_value_descending (value_in old.greatest) value

-- what the rows of each group fold to, of so many rows
abbrev pub folds : {P : Type 0} → P → (P → P → P) → (ℕ → P) → List ℕ → ℕ → ℕ → List P
folds neutral joined part_at groups rows count = map (λ g. rows_fold neutral joined part_at
    (filter (λ row. slice_index_or groups row 0 == g) (places rows))) (places count)

-- the summaries of the groups of the first rows, which feed these values
pub record AreSummed (values : List Meaning) (e : Extremes) (groups : List ℕ) (done count : ℕ) (all : List Summary) : Type 0 where
  pub rows : map (λ s. s.rows) all ≡ folds 0 counts_joined (count_at None None) groups done count
  pub counts : map (λ s. s.values) all ≡ folds 0 counts_joined (count_at (Some values) None) groups done count
  pub sums : map (λ s. s.sum) all ≡ folds None sums_joined (λ row. sum_part (fed values None row)) groups done count
  pub leasts : e.least ≡ true → map (λ s. value_in s.least) all
      ≡ folds Null (first_in by_value) (fed values None) groups done count
  pub greatests : e.greatest ≡ true → map (λ s. value_in s.greatest) all
      ≡ folds Null (first_in by_value_descending) (fed values None) groups done count

-- no extreme is looked for
abbrev pub no_extremes : Extremes
no_extremes = record { least = false; greatest = false }

-- these extremes, and the one that an aggregate asks for, if it asks for one
abbrev pub with_asked : Extremes → AggregateFunction → Extremes
with_asked e CountRows = e
with_asked e Count = e
with_asked e Sum = e
with_asked e Min = record { least = true; greatest = e.greatest }
with_asked e Max = record { least = e.least; greatest = true }

-- whether an aggregate is answered where these extremes are looked for
abbrev pub are_enough : Extremes → AggregateFunction → Bool
are_enough e CountRows = true
are_enough e Count = true
are_enough e Sum = true
are_enough e Min = e.least
are_enough e Max = e.greatest

-- what a summary says that an aggregate comes to; none where it is out of range
abbrev pub answer_in : AggregateFunction → Summary → Option Meaning
answer_in CountRows s = Some (Int (pos s.rows))
answer_in Count s = Some (Int (pos s.values))
answer_in Sum s = sum_answer s.sum
answer_in Min s = Some (value_in s.least)
answer_in Max s = Some (value_in s.greatest)

-- the summary of a group, of which nothing is asked where there is no such group
abbrev pub answer_at : AggregateFunction → List Summary → ℕ → Summary → Option Meaning
answer_at function summaries group none = answer_in function (slice_index_or summaries group none)

-- how many groups there are
abbrev pub group_count : Summaries → ℕ
group_count s = length s.groups.items

-- whether an aggregate is answered
abbrev pub covers : Summaries → AggregateFunction → Bool
covers s function = are_enough s.extremes function

-- a summary for each of so many groups, which says what each aggregate that it covers comes to over the group's rows, where all rows
-- feed these values
pub record AreSummaries (values : List Meaning) (groups : List ℕ) (count : ℕ) (s : Summaries) : Type 0 where
  pub long : group_count s ≡ count
  pub each : (function : AggregateFunction) (group : ℕ) (none : Summary) → covers s function ≡ true → group < count
      → answer_at function s.groups.items group none ≡ aggregate_of function (record { values = values; filter = None })
      (rows_of_group groups group)

-- these summaries are known at a place, and an aggregate that has no filter is answered by them
pub record IsKnownFor (known : List (Option Summaries)) (place : ℕ) (function : AggregateFunction) (filter : Option (Vec Bool Global))
    (s : Bor Summaries) : Type 0 where
  pub unfiltered : filter ≡ None
  pub within : place < length known
  pub is : (none : Option Summaries) → slice_index_or known place none ≡ Some s.now
  pub covered : covers s.now function ≡ true

-- nothing is known there by which it is answered
abbrev pub IsUnknownFor : List (Option Summaries) → ℕ → AggregateFunction → Option (Vec Bool Global) → Type 0
IsUnknownFor known place function filter = (s : Bor Summaries) → ¬ (IsKnownFor known place function filter s)
