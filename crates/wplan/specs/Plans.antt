-- What a resolved query says, wherever its parts lie in memory (<query specification>, <group by clause>,
-- <window clause>, <window function>).
use Rattle.std.specs.Prelude.{ℕ, List, map, Option, Some, None}
use Rattle.std.specs.Rc.{rc_str_bytes}
use Rattle.wvalues.specs.declared.key.SortKey.{SortKey}
use Rattle.wvalues.specs.Meaning.{Meaning, meaning}
use Rattle.wplan.specs.declared.expr.Expr.{Expr}
use Rattle.wplan.specs.declared.resolved.AggregateFunction.{AggregateFunction}
use Rattle.wplan.specs.declared.resolved.Aggregate.{Aggregate}
use Rattle.wplan.specs.declared.resolved.GroupCall.{GroupCall}
use Rattle.wplan.specs.declared.resolved.GroupCall.TheVariants as group_calls
use Rattle.wplan.specs.declared.resolved.Grouping.{Grouping}
use Rattle.wplan.specs.declared.resolved.ResolvedKey.{ResolvedKey}
use Rattle.wplan.specs.declared.resolved.ResolvedFrame.{ResolvedFrame}
use Rattle.wplan.specs.declared.resolved.ResolvedWindow.{ResolvedWindow}
use Rattle.wplan.specs.declared.resolved.WindowFunction.{WindowFunction}
use Rattle.wplan.specs.declared.resolved.WindowFunction.TheVariants as functions
use Rattle.wplan.specs.declared.resolved.CallOver.{CallOver}
use Rattle.wplan.specs.declared.resolved.Output.{Output}
use Rattle.wplan.specs.declared.resolved.Selection.{Selection}
use Rattle.wplan.specs.declared.resolved.Resolved.{Resolved}
use Rattle.wplan.specs.Formula.{Formula, formula}

-- an aggregate with its argument and FILTER; `count(*)` has an argument that it does not look at
pub record AggregatePlan : Type 0 where
  pub function : AggregateFunction
  pub argument : Formula
  pub filter : Option Formula

-- what a group's row has behind its columns: an aggregate, or GROUPING of columns by their places in the source's row
pub data GroupCallPlan : Type 0 where
  GroupAggregate : AggregatePlan → GroupCallPlan
  GroupingOf : List ℕ → GroupCallPlan

-- The columns that GROUP BY names, each once in the order of first sight, by their places in the source's row; its sets of
-- them; the calls whose answers stand behind the columns; and HAVING over the row of these and those. Without GROUP BY there
-- is no column, and one set, the empty one
pub record GroupingPlan : Type 0 where
  pub columns : List ℕ
  pub sets : List (List ℕ)
  pub calls : List GroupCallPlan
  pub having : Option Formula

-- a key of an order
pub record KeyPlan : Type 0 where
  pub value : Formula
  pub order : SortKey

-- PARTITION BY, the keys of ORDER BY and the frame
pub record WindowPlan : Type 0 where
  pub partition : List Formula
  pub keys : List KeyPlan
  pub frame : ResolvedFrame

pub data FunctionPlan : Type 0 where
  RowNumber : FunctionPlan
  Rank : FunctionPlan
  DenseRank : FunctionPlan
  -- so many tiles
  Tile : ℕ → FunctionPlan
  -- a value so many rows before or after, and a default
  Lag : Formula → ℕ → Meaning → FunctionPlan
  Lead : Formula → ℕ → Meaning → FunctionPlan
  FirstValue : Formula → FunctionPlan
  LastValue : Formula → FunctionPlan
  -- a value at a place of the frame, counted from 1
  NthValue : Formula → ℕ → FunctionPlan
  Aggregated : AggregatePlan → FunctionPlan

-- a function over one of the windows
pub record CallPlan : Type 0 where
  pub window : ℕ
  pub function : FunctionPlan

-- an item, with its output name
pub record OutputPlan : Type 0 where
  pub name : List ℕ
  pub value : Formula

-- One SELECT. The condition is over the source's rows, the windows and their calls are over kept rows or group rows, and items
-- and keys are over these rows with what the calls answer behind their cells
pub record SelectPlan : Type 0 where
  pub condition : Option Formula
  pub grouping : Option GroupingPlan
  pub windows : List WindowPlan
  pub calls : List CallPlan
  pub items : List OutputPlan
  pub keys : List KeyPlan
  pub offset : ℕ
  pub limit : Option ℕ

abbrev pub optional_formula : Option Expr → Option Formula
optional_formula None = None
optional_formula (Some e) = Some (formula e)

abbrev pub aggregate_plan : Aggregate → AggregatePlan
aggregate_plan a = record { function = a.function; argument = formula a.argument; filter = optional_formula a.filter }

abbrev pub group_call_plan : GroupCall → GroupCallPlan
group_call_plan (group_calls.Aggregated a) = GroupAggregate (aggregate_plan a)
group_call_plan (group_calls.GroupingOf columns) = GroupingOf columns.items

abbrev pub grouping_plan : Grouping → GroupingPlan
grouping_plan g = record {
  columns = g.columns.items;
  sets = map (λ set. set.items) g.sets.items;
  calls =
      map group_call_plan g.calls.items;
  having = optional_formula g.having;
}

abbrev pub optional_grouping : Option Grouping → Option GroupingPlan
optional_grouping None = None
optional_grouping (Some g) = Some (grouping_plan g)

abbrev pub key_plan : ResolvedKey → KeyPlan
key_plan k = record { value = formula k.value; order = k.order }

abbrev pub window_plan : ResolvedWindow → WindowPlan
window_plan w = record { partition = map formula w.partition.items; keys = map key_plan w.keys.items; frame = w.frame }

abbrev pub function_plan : WindowFunction → FunctionPlan
function_plan functions.RowNumber = RowNumber
function_plan functions.Rank = Rank
function_plan functions.DenseRank = DenseRank
function_plan (functions.Tile n) = Tile n
function_plan (functions.Lag e n d) = Lag (formula e) n (meaning d)
function_plan (functions.Lead e n d) = Lead (formula e) n (meaning d)
function_plan (functions.FirstValue e) = FirstValue (formula e)
function_plan (functions.LastValue e) = LastValue (formula e)
function_plan (functions.NthValue e n) = NthValue (formula e) n
function_plan (functions.Aggregated a) = Aggregated (aggregate_plan a)

abbrev pub call_plan : CallOver → CallPlan
call_plan c = record { window = c.window; function = function_plan c.function }

abbrev pub output_plan : Output → OutputPlan
output_plan o = record { name = rc_str_bytes o.name; value = formula o.value }

abbrev pub select_plan : Selection → SelectPlan
select_plan s = record {
  condition = optional_formula s.condition;
  grouping = optional_grouping s.grouping;
  windows =
      map window_plan s.windows.items;
  calls = map call_plan s.calls.items;
  items = map output_plan s.items.items;
  keys =
      map key_plan s.keys.items;
  offset = s.offset;
  limit = s.limit;
}

-- a query says its SELECTs, of which the innermost stands first: each is over the rows that the one before answers, numbered by place
abbrev pub plans : Resolved → List SelectPlan
plans r = map select_plan r.selections.items
