-- Which calls are fed alike, and what they ask for.
use Rattle.std.specs.Prelude.{ℕ, ◌==◌, Bool, nat_lt, List, [], ◌∷◌, length, fold, Option, Some, None, if◌then◌else◌}
use Rattle.std.specs.Option.{is_none}
use Rattle.wplan.specs.Parts.{Parts}
use Rattle.wplan.specs.declared.expr.Expr.{out-Expr}
use Rattle.wplan.specs.declared.resolved.Aggregate.{Aggregate}
use Rattle.wplan.specs.declared.resolved.AggregateFunction.{AggregateFunction}
use Rattle.wplan.specs.declared.resolved.GroupCall.{GroupCall}
use Rattle.wplan.specs.declared.resolved.GroupCall.TheVariants as group_calls
use Rattle.wrows.specs.PlainColumns.{plain_place}
use Rattle.waggregate.specs.Feeding.{is_null}
use Rattle.waggregate.specs.Summaries.{no_extremes, with_asked}
use Rattle.waggregate.specs.declared.summaries.Extremes.{Extremes}

-- whether an expression that names a column, or none, is the column of a place, or NULL
abbrev pub is_column_or_null : ℕ → Parts → Option ℕ → Bool
is_column_or_null place parts None = is_null parts
is_column_or_null place parts (Some column) = column == place

-- whether an aggregate reads the column of a place, or none
abbrev pub is_fed_by : ℕ → Aggregate → Bool
is_fed_by place a = is_column_or_null place (out-Expr a.argument) (plain_place (out-Expr a.argument))

-- a call, and what the calls behind it are if they are fed alike
abbrev pub and_alike : ℕ → GroupCall → List AggregateFunction → List AggregateFunction
and_alike place (group_calls.GroupingOf columns) functions = functions
and_alike place (group_calls.Aggregated a) functions =
    if is_fed_by place a then (if is_none a.filter then a.function ∷ functions else functions) else []

-- the aggregates without FILTER that read the column of a place, or none, up to the first aggregate that reads something else
abbrev pub functions_alike : ℕ → List GroupCall → List AggregateFunction
functions_alike place [] = []
functions_alike place (call ∷ calls) = and_alike place call (functions_alike place calls)

-- the extremes that are asked for, none where no aggregate is found
abbrev pub asked_so_far : Option Extremes → Extremes
asked_so_far None = no_extremes
asked_so_far (Some extremes) = extremes

-- the extremes that some aggregates ask for, beside others
abbrev pub all_asked : Extremes → List AggregateFunction → Extremes
all_asked extremes functions = fold with_asked extremes functions

-- the extremes that the calls which are fed alike ask for, up to the first that reads another, if there are such calls
abbrev pub extremes_alike : ℕ → List GroupCall → Option Extremes
extremes_alike place calls =
    if nat_lt 0 (length (functions_alike place calls)) then Some (all_asked no_extremes (functions_alike place calls)) else None
