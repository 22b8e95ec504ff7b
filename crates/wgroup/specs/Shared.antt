-- A plain column of rows that calls share, and what feeds an aggregate.
use Rattle.std.specs.Prelude.{◌≡◌, ◌⊎◌, ℕ, ◌<◌, List, All, Ok, Option, Some, Result, length, map, slice_index_or}
use Rattle.std.specs.Option.{ForSome}
use Rattle.std.specs.Borrow.{Bor}
use Rattle.wvalues.specs.declared.value.Value.{Value}
use Rattle.wvalues.specs.Meaning.{Meaning, Null}
use Rattle.wplan.specs.Formula.{At, Constant}
use Rattle.wplan.specs.Plans.{AggregatePlan, GroupCallPlan}
use Rattle.wplan.specs.declared.resolved.AggregateFunction.TheVariants.{CountRows}
use Rattle.wrows.specs.declared.fault.AnswerFault.{AnswerFault}
use Rattle.wrows.specs.Columns.{Row, column_of, value_on}
use Rattle.wrows.specs.Laid.{rows_seen}
use Rattle.waggregate.specs.Feeding.{fed_by}
use Rattle.waggregate.specs.Summaries.{AreSummaries}
use Rattle.waggregate.specs.declared.summaries.Extremes.{Extremes}
use Rattle.waggregate.specs.declared.summaries.Summaries.{Summaries}
use Rattle.wgroup.specs.declared.found.Groups as memory
use Rattle.wgroup.specs.declared.fed.FedAggregate.{FedAggregate}
use Rattle.wgroup.specs.declared.fed.GroupedRows.{GroupedRows}
use Rattle.wgroup.specs.Held.{column_over, row_numbers, set_answers}
use Rattle.wgroup.specs.declared.shared.SharedColumn.{SharedColumn}

-- what is known at a place, if anything, is what the rows of each of these groups come to, which feed these values
abbrev pub IsKnown : List Meaning → List (Option Summaries) → ℕ → memory.Groups → Type 0
IsKnown values known place g = (none : Option Summaries) → place < length known
    → ForSome (slice_index_or known place none) (AreSummaries values (row_numbers g) g.count)

-- so it is of each set, by its place
abbrev pub AreKnown : List Meaning → List memory.Groups → List (Option Summaries) → Type 0
AreKnown values sets known = (place : ℕ) (none : memory.Groups) → IsKnown values known place (slice_index_or sets place none)

-- just these extremes are looked for, if any are asked for
abbrev pub LooksFor : Option Extremes → Summaries → Type 0
LooksFor extremes known = Some known.extremes ≡ extremes

-- so they are in all that is known
abbrev pub AllLookFor : Option Extremes → List (Option Summaries) → Type 0
AllLookFor extremes = All (λ known. ForSome known (LooksFor extremes))

-- what is known of the groups of these sets is of what the rows have in the column
abbrev pub IsShared : List (Bor (List Value)) → List memory.Groups → SharedColumn → Type 0
IsShared rows sets column = AreKnown (map (value_on (At column.place)) (rows_seen rows)) sets column.summaries.items

-- values feed an aggregate as its argument does: they are the argument's, or rows are counted, at whose values nobody looks
abbrev pub Feeds : AggregatePlan → List Row → List Meaning → Type 0
Feeds a rows values = (column_of a.argument rows ≡ Ok values) ⊎ ((a.function ≡ CountRows) × (a.argument ≡ Constant Null))

-- what an aggregate that is fed so comes to on each group of a set
abbrev pub fed_answers : FedAggregate → memory.Groups → List (Option Meaning)
fed_answers fed = set_answers fed.function (fed_by fed.argument fed.filter)

-- what a call answers for each group of rows
abbrev pub column_on : GroupedRows → GroupCallPlan → Result (List Meaning) AnswerFault
column_on grouped = column_over (rows_seen grouped.rows.now) grouped.sets.now
