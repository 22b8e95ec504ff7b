-- Groups in memory, and aggregates over their rows.
use Rattle.std.specs.Prelude.{ℕ, ◌+◌, ◌++◌, List, map, slice_index_or, Option, Some, None, Result}
use Rattle.std.specs.List.{flat_map}
use Rattle.std.specs.declared.alloc.Global.{Global}
use Rattle.std.specs.declared.vec.Vec.{Vec}
use Rattle.wvalues.specs.Meaning.{Meaning, meaning}
use Rattle.wvalues.specs.declared.value.Value.{Value}
use Rattle.wframe.specs.Peers.{key_at}
use Rattle.wrows.specs.declared.fault.AnswerFault.{AnswerFault}
use Rattle.wrows.specs.Outcomes.{◌>>=◌}
use Rattle.wrows.specs.Columns.{Row, in_range, value_at}
use Rattle.wrows.specs.LaidRows.{laid}
use Rattle.waggregate.specs.Aggregating.{aggregate_of, feed_of, Feed}
use Rattle.waggregate.specs.Grouped.{rows_of_group}
use Rattle.wgroup.specs.declared.found.Groups as memory
use Rattle.wgroup.specs.declared.found.FinerSet as made
use Rattle.wplan.specs.Plans.{GroupCallPlan, GroupAggregate, GroupingOf}
use Rattle.wgroup.specs.Grouping.{Group, grouping_answer}
use Rattle.wplan.specs.declared.resolved.AggregateFunction.{AggregateFunction}

-- what columns in memory say
abbrev pub columns_in : List (Vec Value Global) → List (List Meaning)
columns_in = map (λ column. map meaning column.items)

-- the number of each row's group, by that of its finer group where there is one
abbrev pub by_row : List ℕ → Option made.FinerSet → List ℕ
by_row numbers None = numbers
by_row numbers (Some finer) = map (λ i. slice_index_or finer.numbers.items i 0) numbers

abbrev pub row_numbers : memory.Groups → List ℕ
row_numbers g = by_row g.numbers.value.items g.finer

-- a group in memory by its number in the order of first sight, and all of a set by their keys
abbrev pub group_in : memory.Groups → ℕ → Group
group_in g i = record { set = g.set.items; key = key_at (laid g.width g.count g.keys.items) i; rows = rows_of_group (row_numbers g) i }

abbrev pub groups_in : memory.Groups → List Group
groups_in g = map (group_in g) g.order.items

-- all groups, one set after the other
abbrev pub all_groups : List memory.Groups → List Group
all_groups = flat_map groups_in

-- an aggregate that is fed so, for each group of a set, by the numbers of the rows' groups
abbrev pub set_answers : AggregateFunction → Feed → memory.Groups → List (Option Meaning)
set_answers function feed g = map (λ i. aggregate_of function feed (rows_of_group (row_numbers g) i)) g.order.items

-- GROUPING of columns for each group of a set
abbrev pub set_grouping : List ℕ → memory.Groups → List (Option Meaning)
set_grouping columns g = map (λ i. grouping_answer columns g.set.items) g.order.items

-- what a call answers for each group
abbrev pub column_over : List Row → List memory.Groups → GroupCallPlan → Result (List Meaning) AnswerFault
column_over rows sets (GroupAggregate a) = feed_of a rows >>= λ feed. in_range (flat_map (set_answers a.function feed) sets)
column_over rows sets (GroupingOf columns) = in_range (flat_map (set_grouping columns) sets)

-- a group's row by its place in its set: its key, and what columns have for it, the set's groups having the places from one on
abbrev pub group_row : memory.Groups → List (List Meaning) → ℕ → ℕ → Row
group_row g columns from i = key_at (map (λ group. group.key) (groups_in g)) i ++ map (λ column. value_at column (from + i)) columns
