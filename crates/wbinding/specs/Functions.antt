-- The arguments of calls, and the aggregates and window functions that calls stand for. (SQL, `<aggregate function>`,
-- `<window function>`.)
use Rattle.std.specs.Prelude.{ℕ, zero, suc, pos, neg_ℤ, nat_lt, ◌^◌, true, Option, Some, None, if◌then◌else◌}
use Rattle.std.specs.Borrow.{Bor}
use Rattle.wquery.specs.declared.expression.Expression.{Expression}
use Rattle.wquery.specs.Tree.{Tree, NullWord, Numeral, Quoted, Invoked, Signed, Trees, NoTrees, MoreTrees}
use Rattle.wquery.specs.Tree.{Given, Everything, These, Columns, Filter, Unfiltered, FilteredBy, view}
use Rattle.wvalues.specs.Meaning.{Meaning, Null, Int, Text}
use Rattle.wscope.specs.declared.function.Function.{Function}
use Rattle.wscope.specs.declared.function.Function.TheVariants as functions
use Rattle.wscope.specs.Functions.{function_of}
use Rattle.wplan.specs.declared.resolved.AggregateFunction.{AggregateFunction}
use Rattle.wplan.specs.declared.resolved.AggregateFunction.TheVariants as aggregates
use Rattle.wplan.specs.Formula.{Formula}
use Rattle.wplan.specs.Plans.{AggregatePlan, FunctionPlan, RowNumber, Rank, DenseRank, Tile}
use Rattle.wplan.specs.Plans.{Lag, Lead, FirstValue, LastValue, NthValue, Aggregated}
use Rattle.wbinding.specs.Resolving.{Layout, resolved, literal}

-- the argument at a place, NULL where there is none
abbrev pub tree_at : ℕ → Trees → Tree
tree_at n NoTrees = NullWord
tree_at zero (MoreTrees t ts) = t
tree_at (suc n) (MoreTrees t ts) = tree_at n ts

-- the columns of GROUPING are no arguments
abbrev pub argument : ℕ → Given → Tree
argument n Everything = NullWord
argument n (These ts) = tree_at n ts
argument n (Columns ts) = NullWord

-- an argument in memory
abbrev pub tree_or_null : Option (Bor Expression) → Tree
tree_or_null None = NullWord
tree_or_null (Some e) = view e.now

-- a number literal, or else a default
abbrev pub number_or : ℕ → Tree → ℕ
number_or d (Numeral n) = n
number_or d _ = d

-- numbers of queries are below 2^95
abbrev pub negative : ℕ → Meaning
negative n = if nat_lt n (2 ^ 95) then Int (neg_ℤ (pos n)) else Null

-- a number with at most one minus, or a text; NULL otherwise
abbrev pub literal_of : Tree → Meaning
literal_of (Numeral n) = literal n
literal_of (Signed true (Numeral n)) = negative n
literal_of (Quoted text) = Text text
literal_of _ = Null

abbrev pub filter_made : Layout → Filter → Option Formula
filter_made l Unfiltered = None
filter_made l (FilteredBy t) = Some (resolved l t)

abbrev pub aggregate_function : Option Function → Given → AggregateFunction
aggregate_function (Some functions.Sum) given = aggregates.Sum
aggregate_function (Some functions.Min) given = aggregates.Min
aggregate_function (Some functions.Max) given = aggregates.Max
aggregate_function f Everything = aggregates.CountRows
aggregate_function f (These ts) = aggregates.Count
aggregate_function f (Columns ts) = aggregates.Count

abbrev pub aggregated : Layout → Option Function → Given → Filter → AggregatePlan
aggregated l f given filter = record {
  function = aggregate_function f given;
  argument = resolved l (argument 0 given);
  filter = filter_made l filter;
}

-- an aggregate, with or without OVER
abbrev pub aggregate_made : Layout → Tree → AggregatePlan
aggregate_made l (Invoked name given filter reach) = aggregated l (function_of name) given filter
aggregate_made l _ = aggregated l None Everything Unfiltered

-- lag and lead look one row away and have the default NULL where nothing else is said
abbrev pub function_made : Layout → Option Function → Given → Filter → FunctionPlan
function_made l (Some functions.RowNumber) given filter = RowNumber
function_made l (Some functions.Rank) given filter = Rank
function_made l (Some functions.DenseRank) given filter = DenseRank
function_made l (Some functions.Ntile) given filter = Tile (number_or 1 (argument 0 given))
function_made l (Some functions.Lag) given filter = Lag (resolved l (argument 0 given)) (number_or 1 (argument 1 given))
    (literal_of (argument 2 given))
function_made l (Some functions.Lead) given filter = Lead (resolved l (argument 0 given)) (number_or 1 (argument 1 given))
    (literal_of (argument 2 given))
function_made l (Some functions.FirstValue) given filter = FirstValue (resolved l (argument 0 given))
function_made l (Some functions.LastValue) given filter = LastValue (resolved l (argument 0 given))
function_made l (Some functions.NthValue) given filter = NthValue (resolved l (argument 0 given)) (number_or 1 (argument 1 given))
function_made l f given filter = Aggregated (aggregated l f given filter)

abbrev pub call_function : Layout → Tree → FunctionPlan
call_function l (Invoked name given filter reach) = function_made l (function_of name) given filter
call_function l _ = RowNumber
