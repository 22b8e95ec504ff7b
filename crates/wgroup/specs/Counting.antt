-- Groupings that count all rows, and ask nothing else of them.
use Rattle.std.specs.Prelude.{◌≡◌, ℕ, ◌==◌, ◌&&◌, Bool, true, false, List, [], ◌∷◌, length, None}
use Rattle.std.specs.List.{AllByRecursion, list_all}
use Rattle.std.specs.Option.{is_none}
use Rattle.wvalues.specs.Meaning.{Null}
use Rattle.wplan.specs.Formula.{Constant}
use Rattle.wplan.specs.Plans.{GroupAggregate, GroupCallPlan, GroupingPlan}
use Rattle.wplan.specs.declared.expr.Expr.{out-Expr}
use Rattle.wplan.specs.declared.resolved.Aggregate.{Aggregate}
use Rattle.wplan.specs.declared.resolved.AggregateFunction.{AggregateFunction}
use Rattle.wplan.specs.declared.resolved.AggregateFunction.TheVariants.{CountRows, Count, Sum, Min, Max}
use Rattle.wplan.specs.declared.resolved.GroupCall.{GroupCall}
use Rattle.wplan.specs.declared.resolved.GroupCall.TheVariants as group_calls
use Rattle.wplan.specs.declared.resolved.Grouping.{Grouping}
use Rattle.wgroupby.specs.Held.{lists_in}
use Rattle.waggregate.specs.Feeding.{is_null}

-- `count(*)` without FILTER
abbrev pub row_count : GroupCallPlan
row_count = GroupAggregate (record { function = CountRows; argument = Constant Null; filter = None })

-- by no column, in one group, with calls that are such counts; HAVING may ask what it likes of the group's row
pub record CountsRows (g : GroupingPlan) : Type 0 where
  pub columns : g.columns ≡ []
  pub sets : g.sets ≡ [] ∷ []
  pub calls : AllByRecursion (λ c. c ≡ row_count) g.calls

-- whether rows are counted, whatever they hold
abbrev pub is_rows : AggregateFunction → Bool
is_rows CountRows = true
is_rows Count = false
is_rows Sum = false
is_rows Min = false
is_rows Max = false

-- whether an aggregate, and whether a call, is `count(*)` without FILTER
abbrev pub is_row_count : Aggregate → Bool
is_row_count a = is_rows a.function && (is_null (out-Expr a.argument) && is_none a.filter)

abbrev pub is_counted : GroupCall → Bool
is_counted (group_calls.Aggregated a) = is_row_count a
is_counted (group_calls.GroupingOf columns) = false

-- whether there is one set, the empty one
abbrev pub is_one_empty : List (List ℕ) → Bool
is_one_empty [] = false
is_one_empty (set ∷ []) = length set == 0
is_one_empty (set ∷ other ∷ sets) = false

-- whether a grouping counts all rows in one group and asks nothing else of them
abbrev pub counts_rows : Grouping → Bool
counts_rows g = (length g.columns.items == 0) && (is_one_empty (lists_in g.sets.items) && list_all is_counted g.calls.items)
