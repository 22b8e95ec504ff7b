-- The types of the rows that a resolved query answers, by those of the rows that it is over (<query specification>, <where
-- clause>, <group by clause>, <having clause>, <window clause>, <window function>, <aggregate function>, <order by
-- clause>). There are none where some part of it is ill typed, or names a cell that is not there.
use Rattle.std.specs.Prelude.{ℕ, Bool, true, false, ◌&&◌, ◌||◌, not, nat_lt, nat_le, ◌^◌, List, [], ◌∷◌, ◌++◌, Option, Some, None}
use Rattle.std.specs.List.{list_all}
use Rattle.wquery.specs.declared.frame.FrameMode.{FrameMode}
use Rattle.wquery.specs.declared.frame.FrameMode.TheVariants.{Rows, Range, Groups}
use Rattle.wquery.specs.declared.frame.FrameBound.{FrameBound}
use Rattle.wquery.specs.declared.frame.FrameBound.TheVariants.{Preceding, Following}
use Rattle.wscope.specs.declared.data_type.DataType.{DataType}
use Rattle.wscope.specs.declared.data_type.DataType.TheVariants.{Integer, Text, Truth, Null}
use Rattle.wgroupby.specs.Sets.{is_among}
use Rattle.wplan.specs.declared.resolved.AggregateFunction.{AggregateFunction}
use Rattle.wplan.specs.declared.resolved.AggregateFunction.TheVariants.{CountRows, Count, Sum, Min, Max}
use Rattle.wplan.specs.declared.resolved.ResolvedFrame.{ResolvedFrame}
use Rattle.wplan.specs.Formula.{Formula}
use Rattle.wplan.specs.Plans.{AggregatePlan, GroupCallPlan, GroupAggregate, GroupingOf, GroupingPlan, KeyPlan}
use Rattle.wplan.specs.Plans.{WindowPlan, FunctionPlan, RowNumber, Rank, DenseRank, Tile, Lag, Lead, FirstValue}
use Rattle.wplan.specs.Plans.{LastValue, NthValue, Aggregated, CallPlan, OutputPlan, SelectPlan}
use Rattle.wnodes.specs.Bounds.{place_of_bound}
use Rattle.wscope.specs.Types.{is_truth}
use Rattle.wtyped.specs.Typing.{beside, constant_type, formula_type, has, is_number, type_at, valued, where_holds}

abbrev pub with_type : Option DataType → Option (List DataType) → Option (List DataType)
with_type (Some t) (Some ts) = Some (t ∷ ts)
with_type _ _ = None

-- those of some cells and behind them those of others
abbrev pub with_types : Option (List DataType) → Option (List DataType) → Option (List DataType)
with_types (Some ts) (Some us) = Some (ts ++ us)
with_types _ _ = None

-- a search condition, where there is one
abbrev pub is_condition : List DataType → Option Formula → Bool
is_condition ts None = true
is_condition ts (Some f) = has is_truth (formula_type ts f)

-- a value, which a truth is not
abbrev pub is_any : DataType → Bool
is_any t = true

abbrev pub is_value : List DataType → Formula → Bool
is_value ts f = has is_any (valued (formula_type ts f))

-- aggregates

-- of what an aggregate of values of a type comes to
abbrev pub aggregate_of : AggregateFunction → Option DataType → Option DataType
aggregate_of CountRows t = where_holds (has is_any t) Integer
aggregate_of Count t = where_holds (has is_any t) Integer
aggregate_of Sum t = where_holds (has is_number t) Integer
aggregate_of Min t = t
aggregate_of Max t = t

abbrev pub unless_wrong : Bool → Option DataType → Option DataType
unless_wrong true t = t
unless_wrong false t = None

abbrev pub aggregate_type : List DataType → AggregatePlan → Option DataType
aggregate_type ts a = unless_wrong (is_condition ts a.filter) (aggregate_of a.function (valued (formula_type ts a.argument)))

-- the row of a group

-- of the cells at some places
abbrev pub types_at : List ℕ → List DataType → Option (List DataType)
types_at [] ts = Some []
types_at (p ∷ ps) ts = with_type (type_at p ts) (types_at ps ts)

-- GROUPING is of columns of GROUP BY
abbrev pub group_call_type : List DataType → List ℕ → GroupCallPlan → Option DataType
group_call_type ts columns (GroupAggregate a) = aggregate_type ts a
group_call_type ts columns (GroupingOf places) = where_holds (list_all (λ p. is_among p columns) places) Integer

abbrev pub group_call_types : List DataType → List ℕ → List GroupCallPlan → Option (List DataType)
group_call_types ts columns [] = Some []
group_call_types ts columns (c ∷ cs) = with_type (group_call_type ts columns c) (group_call_types ts columns cs)

-- the source's row, or that of a group: its columns, and what its calls answer
abbrev pub row_types : List DataType → Option GroupingPlan → Option (List DataType)
row_types ts None = Some ts
row_types ts (Some g) = with_types (types_at g.columns ts) (group_call_types ts g.columns g.calls)

-- HAVING, over the row of a group
abbrev pub is_having : List DataType → Option GroupingPlan → Bool
is_having ts None = true
is_having ts (Some g) = is_condition ts g.having

-- windows

abbrev pub are_keys : List DataType → List KeyPlan → Bool
are_keys ts ks = list_all (λ (k : KeyPlan). is_value ts k.value) ks

-- offsets are below 2^63
abbrev pub is_short : FrameBound → Bool
is_short (Preceding n) = nat_lt n (2 ^ 63)
is_short (Following n) = nat_lt n (2 ^ 63)
is_short _ = true

abbrev pub has_offset : FrameBound → Bool
has_offset (Preceding n) = true
has_offset (Following n) = true
has_offset _ = false

-- a frame starts before the last bound, ends behind the first, and does not end at an earlier kind of bound than it starts
abbrev pub are_bounds : FrameBound → FrameBound → Bool
are_bounds start end =
    nat_lt (place_of_bound start) 4
    && (nat_lt 0 (place_of_bound end) && (nat_le (place_of_bound start) (place_of_bound end) && (is_short start && is_short end)))

abbrev pub is_one_number : List DataType → List KeyPlan → Bool
is_one_number ts (k ∷ []) = has is_number (formula_type ts k.value)
is_one_number ts _ = false

abbrev pub has_keys : List KeyPlan → Bool
has_keys [] = false
has_keys (k ∷ ks) = true

-- GROUPS asks for an order, and an offset in RANGE for one key, which is a number
abbrev pub suits_keys : List DataType → List KeyPlan → FrameMode → Bool → Bool
suits_keys ts ks Rows offset = true
suits_keys ts ks Groups offset = has_keys ks
suits_keys ts ks Range offset = not offset || is_one_number ts ks

abbrev pub is_frame : List DataType → List KeyPlan → ResolvedFrame → Bool
is_frame ts ks f = are_bounds f.start f.end && suits_keys ts ks f.mode (has_offset f.start || has_offset f.end)

abbrev pub is_window : List DataType → WindowPlan → Bool
is_window ts w = list_all (is_value ts) w.partition && (are_keys ts w.keys && is_frame ts w.keys w.frame)

abbrev pub are_windows : List DataType → List WindowPlan → Bool
are_windows ts ws = list_all (is_window ts) ws

-- the type of lag and lead is that of the default where the value is null
abbrev pub function_type : List DataType → FunctionPlan → Option DataType
function_type ts RowNumber = Some Integer
function_type ts Rank = Some Integer
function_type ts DenseRank = Some Integer
function_type ts (Tile n) = Some Integer
function_type ts (Lag f n default) = beside (formula_type ts f) (Some (constant_type default))
function_type ts (Lead f n default) = beside (formula_type ts f) (Some (constant_type default))
function_type ts (FirstValue f) = valued (formula_type ts f)
function_type ts (LastValue f) = valued (formula_type ts f)
function_type ts (NthValue f n) = valued (formula_type ts f)
function_type ts (Aggregated a) = aggregate_type ts a

-- what calls answer, one after another
abbrev pub call_types : List DataType → List CallPlan → Option (List DataType)
call_types ts [] = Some []
call_types ts (c ∷ cs) = with_type (function_type ts c.function) (call_types ts cs)

-- SELECTs

-- a column of nulls alone is one of texts
abbrev pub known : Option DataType → Option DataType
known None = None
known (Some Integer) = Some Integer
known (Some Text) = Some Text
known (Some Truth) = Some Truth
known (Some Null) = Some Text

abbrev pub item_types : List DataType → List OutputPlan → Option (List DataType)
item_types ts [] = Some []
item_types ts (i ∷ is) = with_type (known (valued (formula_type ts i.value))) (item_types ts is)

abbrev pub unless_ill : Bool → Option (List DataType) → Option (List DataType)
unless_ill true ts = ts
unless_ill false ts = None

-- items and keys, over the row with what the calls answer
abbrev pub answer_types : SelectPlan → Option (List DataType) → Option (List DataType)
answer_types p None = None
answer_types p (Some ts) = unless_ill (are_keys ts p.keys) (item_types ts p.items)

-- HAVING, windows and calls, over the row of the source or of a group
abbrev pub shown_types : SelectPlan → Option (List DataType) → Option (List DataType)
shown_types p None = None
shown_types p (Some ts) =
    unless_ill (is_having ts p.grouping && are_windows ts p.windows) (answer_types p (with_types (Some ts) (call_types ts p.calls)))

-- of the rows of a SELECT over rows of these types
abbrev pub select_types : List DataType → SelectPlan → Option (List DataType)
select_types ts p = unless_ill (is_condition ts p.condition) (shown_types p (row_types ts p.grouping))

abbrev pub next_types : Option (List DataType) → SelectPlan → Option (List DataType)
next_types None p = None
next_types (Some ts) p = select_types ts p

-- of the rows of a query, of which the innermost SELECT stands first
abbrev pub query_types : Option (List DataType) → List SelectPlan → Option (List DataType)
query_types ts [] = ts
query_types ts (p ∷ ps) = query_types (next_types ts p) ps
