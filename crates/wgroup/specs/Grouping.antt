-- Groups of each set of columns (<group by clause>, <grouping sets specification>, <grouping operation>, <having clause>).
use Rattle.std.specs.Prelude.{ℕ, pos, Bool, not, List, [], ◌∷◌, map, filter, length, Option}
use Rattle.std.specs.Prelude.{Some, None, Result, option_map, slice_index_or, if◌then◌else◌}
use Rattle.std.specs.List.{list_any, flat_map}
use Rattle.std.specs.Ordering.{is_eq, on}
use Rattle.std.specs.declared.cmp.Ordering.{Ordering}
use Rattle.wvalues.specs.Meaning.{Meaning, Null, Int}
use Rattle.wvalues.specs.Order.{keys_cmp}
use Rattle.wvalues.specs.Whole.{if_whole}
use Rattle.wframe.specs.Peers.{key_at}
use Rattle.wframe.specs.Places.{places}
use Rattle.wframe.specs.Sorting.{sorted}
use Rattle.wrows.specs.declared.fault.AnswerFault.{AnswerFault}
use Rattle.wrows.specs.Outcomes.{◌>>=◌, each}
use Rattle.wrows.specs.Sorting.{ascending}
use Rattle.wrows.specs.Columns.{Row, held_rows, in_range, not_too_many, beside}
use Rattle.waggregate.specs.Aggregating.{feed_of, aggregate_of}
use Rattle.wgroupby.specs.Sets.{is_among, grouping_of}
use Rattle.wplan.specs.Plans.{GroupCallPlan, GroupAggregate, GroupingOf, GroupingPlan}

-- the columns of GROUP BY, of which a set may lack some
abbrev pub SetColumns : Type 0
SetColumns = List (Option ℕ)

abbrev pub set_columns : List ℕ → List ℕ → SetColumns
set_columns columns set = map (λ c. if is_among c set then Some c else None) columns

-- a row's value in a column, null where the set lacks it
abbrev pub set_value : Row → Option ℕ → Meaning
set_value row None = Null
set_value row (Some c) = slice_index_or row c Null

-- the order of group keys, in which nulls are equal
abbrev pub group_cmp : SetColumns → List Meaning → List Meaning → Ordering
group_cmp columns = keys_cmp (ascending columns)

-- the values of the row of a number in the columns of GROUP BY
abbrev pub group_key : SetColumns → List Row → ℕ → List Meaning
group_key columns rows i = map (set_value (key_at rows i)) columns

-- whether two rows agree on the columns of the set
abbrev pub agree : SetColumns → List Row → ℕ → ℕ → Bool
agree columns rows i j = is_eq (group_cmp columns (group_key columns rows i) (group_key columns rows j))

-- a group: the columns of its set, its key, null in those that the set lacks, and its rows by number
pub record Group : Type 0 where
  pub set : List ℕ
  pub key : List Meaning
  pub rows : List ℕ

-- the rows with which no earlier row agrees, one for each group, in the order of first sight
abbrev pub first_rows : SetColumns → List Row → List ℕ
first_rows columns rows = filter (λ i. not (list_any (agree columns rows i) (places i))) (places (length rows))

-- the group of a row: the rows that agree with it
abbrev pub group_of : List ℕ → SetColumns → List Row → ℕ → Group
group_of set columns rows i = record {
  set = set;
  key = group_key columns rows i;
  rows =
      filter (agree columns rows i) (places (length rows));
}

-- the groups by their keys
abbrev pub groups_by : List ℕ → SetColumns → List Row → List Group
groups_by set columns rows = map (group_of set columns rows) (sorted (on (group_key columns rows) (group_cmp columns))
    (first_rows columns rows))

-- The groups of a set. The empty one has one group, of all rows, also where there is none
abbrev pub groups_of_set : List ℕ → List Row → List ℕ → List Group
groups_of_set columns rows [] = record { set = []; key = map (λ c. Null) columns; rows = places (length rows) } ∷ []
groups_of_set columns rows (c ∷ cs) = groups_by (c ∷ cs) (set_columns columns (c ∷ cs)) rows

-- the groups of all sets, one set after the other
abbrev pub groups_of : List ℕ → List (List ℕ) → List Row → List Group
groups_of columns sets rows = flat_map (groups_of_set columns rows) sets

-- GROUPING of columns on a group row of a set; none where it is out of range
abbrev pub grouping_answer : List ℕ → List ℕ → Option Meaning
grouping_answer columns set = option_map (λ z. Int z) (if_whole (pos (grouping_of set columns)))

-- an aggregate of each group, or GROUPING of its set
abbrev pub call_column : List Row → List Group → GroupCallPlan → Result (List Meaning) AnswerFault
call_column rows groups (GroupAggregate a) = feed_of a rows >>= λ feed. in_range (map (λ g. aggregate_of a.function feed g.rows) groups)
call_column rows groups (GroupingOf columns) = in_range (map (λ g. grouping_answer columns g.set) groups)

-- group rows, each a group's key and then what the calls answer for it, of which HAVING keeps some
abbrev pub group_rows : GroupingPlan → List Row → Result (List Row) AnswerFault
group_rows g rows = do
  groups ← not_too_many (groups_of g.columns g.sets rows)
  columns ← each (call_column rows groups) g.calls
  held_rows g.having (beside (map (λ group. group.key) groups) columns)
