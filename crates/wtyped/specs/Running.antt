-- The expressions that the meaning of a query evaluates, each with the rows that it is evaluated on; and that nothing stands
-- in for anything there: each place is a cell of the row, with a value of the type that is foretold.
use Rattle.std.specs.Prelude.{◌≡◌, Bool, true, false, List, [], ◌∷◌, ◌++◌, map, Option, Some, None, Result, Ok, Err, IfOk}
use Rattle.std.specs.List.{AllByRecursion, flat_map, list_all}
use Rattle.wsegment.specs.Declaration.{Declaration}
use Rattle.wsegment.specs.Spelling.{repeats_name}
use Rattle.wset.specs.Views.{View}
use Rattle.wquery.specs.QueryTree.{QueryTree}
use Rattle.wscope.specs.declared.data_type.DataType.{DataType}
use Rattle.wscope.specs.Sources.{answer_columns, declared_columns}
use Rattle.wrules.specs.Rules.{first_broken_rule}
use Rattle.wplan.specs.Formula.{Formula, At}
use Rattle.wplan.specs.Plans.{AggregatePlan, GroupCallPlan, GroupAggregate, GroupingOf, GroupingPlan, WindowPlan, FunctionPlan, RowNumber}
use Rattle.wplan.specs.Plans.{Rank, DenseRank, Tile, Lag, Lead, FirstValue, LastValue, NthValue, Aggregated, SelectPlan}
use Rattle.weval.specs.Values.{Outcome, Held, Judged, TooLarge, value_of}
use Rattle.wresolve.specs.Selecting.{resolved_query}
use Rattle.wrows.specs.declared.fault.AnswerFault.{AnswerFault}
use Rattle.wrows.specs.Columns.{Row, beside, not_too_many}
use Rattle.wrows.specs.Outcomes.{each}
use Rattle.wrows.specs.Plain.{kept_of}
use Rattle.wgroup.specs.Grouping as grouping
use Rattle.wgroup.specs.Grouping.{Group, groups_of}
use Rattle.wplanner.specs.Answers.{answer_of, call_columns, left_rows, select_of}
use Rattle.wtable.specs.Tables.{rows_of_view}
use Rattle.wtyped.specs.Exact.{are_of, exact_value}
use Rattle.wtyped.specs.Laws.{types_of}
use Rattle.wtyped.specs.Shapes.{is_shaped}

-- an expression, whether it stands as a condition or as a value, and the rows that it is evaluated on
pub record Evaluation : Type 0 where
  pub is_condition : Bool
  pub expression : Formula
  pub rows : List Row

abbrev pub condition_on : List Row → Option Formula → List Evaluation
condition_on rows None = []
condition_on rows (Some f) = record { is_condition = true; expression = f; rows = rows } ∷ []

abbrev pub on_each : List Row → Formula → Evaluation
on_each rows f = record { is_condition = false; expression = f; rows = rows }

-- behind a fault nothing is evaluated
abbrev pub after : {X : Type 0} → Result X AnswerFault → (X → List Evaluation) → List Evaluation
after (Ok x) f = f x
after (Err fault) f = []

-- the argument and FILTER of an aggregate
abbrev pub aggregate_on : List Row → AggregatePlan → List Evaluation
aggregate_on rows a = on_each rows a.argument ∷ condition_on rows a.filter

abbrev pub group_call_on : List Row → GroupCallPlan → List Evaluation
group_call_on rows (GroupAggregate a) = aggregate_on rows a
group_call_on rows (GroupingOf places) = []

-- HAVING, on the rows of all groups
abbrev pub having_on : GroupingPlan → List Row → List Group → List Evaluation
having_on g rows groups =
    after (each (grouping.call_column rows groups) g.calls)
    (λ columns. condition_on (beside (map (λ (group : Group). group.key) groups) columns) g.having)

-- the columns of GROUP BY and the calls on kept rows, and HAVING
abbrev pub grouping_on : Option GroupingPlan → List Row → List Evaluation
grouping_on None rows = []
grouping_on (Some g) rows =
    map (λ place. on_each rows (At place)) g.columns
    ++ (flat_map (group_call_on rows) g.calls ++ after (not_too_many (groups_of g.columns g.sets rows)) (having_on g rows))

abbrev pub function_on : List Row → FunctionPlan → List Evaluation
function_on rows RowNumber = []
function_on rows Rank = []
function_on rows DenseRank = []
function_on rows (Tile n) = []
function_on rows (Lag f n default) = on_each rows f ∷ []
function_on rows (Lead f n default) = on_each rows f ∷ []
function_on rows (FirstValue f) = on_each rows f ∷ []
function_on rows (LastValue f) = on_each rows f ∷ []
function_on rows (NthValue f n) = on_each rows f ∷ []
function_on rows (Aggregated a) = aggregate_on rows a

-- PARTITION BY and ORDER BY of a window
abbrev pub window_on : List Row → WindowPlan → List Evaluation
window_on rows w = map (on_each rows) w.partition ++ map (λ k. on_each rows k.value) w.keys

-- the items and the keys of ORDER BY
abbrev pub items_on : SelectPlan → List Row → List Evaluation
items_on s rows = map (λ i. on_each rows i.value) s.items ++ map (λ k. on_each rows k.value) s.keys

-- windows and their calls on the kept rows or on those of groups, and items and keys with what the calls answer behind their
-- cells
abbrev pub left_on : SelectPlan → List Row → List Evaluation
left_on s rows =
    flat_map (window_on rows) s.windows
    ++ (flat_map (λ c. function_on rows c.function) s.calls ++ after (call_columns s rows) (λ columns. items_on s (beside rows columns)))

abbrev pub kept_on : SelectPlan → List Row → List Evaluation
kept_on s rows = grouping_on s.grouping rows ++ after (left_rows s.grouping rows) (left_on s)

-- all that a SELECT evaluates
abbrev pub select_on : SelectPlan → List Row → List Evaluation
select_on s rows = condition_on rows s.condition ++ after (kept_of s.condition rows) (kept_on s)

-- all that a query evaluates, of which the innermost SELECT stands first
abbrev pub query_on : List SelectPlan → List Row → List Evaluation
query_on [] rows = []
query_on (s ∷ ss) rows = select_on s rows ++ after (select_of s rows) (query_on ss)

-- a condition comes to a truth, and a value to a value, unless it is out of range
abbrev pub suits : Bool → Outcome → Bool
suits is_condition TooLarge = true
suits true (Judged t) = true
suits false (Held m) = true
suits _ _ = false

pub record IsExactOn (e : Evaluation) (row : Row) : Type 0 where
  pub exact : exact_value row e.expression ≡ Some (value_of row e.expression)
  pub suited : suits e.is_condition (value_of row e.expression) ≡ true

abbrev pub IsExact : Evaluation → Type 0
IsExact e = AllByRecursion (IsExactOn e) e.rows

-- rows of which each has cells of these types
abbrev pub all_of : List DataType → List Row → Bool
all_of ts rows = list_all (are_of ts) rows

-- what a query on these rows evaluates is exact, and the rows of its answer have the types of its columns
pub record RunsTyped (d : Declaration) (q : QueryTree) (rows : List Row) : Type 0 where
  pub table : all_of (types_of (declared_columns d.columns)) rows ≡ true
  pub evaluated : AllByRecursion IsExact (query_on (resolved_query d q) rows)
  pub answered : IfOk (answer_of (resolved_query d q) rows) (λ answer. all_of (types_of (answer_columns d q)) answer ≡ true)

-- on all rows that a set of the declaration can hold
abbrev pub AcceptedRunsTyped : Type 0
AcceptedRunsTyped =
    (d : Declaration) (v : View) (q : QueryTree) → repeats_name d.columns ≡ false → is_shaped q ≡ true → first_broken_rule d q ≡ None
    → RunsTyped d q (rows_of_view d v)
