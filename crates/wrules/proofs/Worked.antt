-- Queries that are accepted, or refused with their rule, by computation.
use Rattle.std.proofs.Common.{◌≡◌, ℕ, zero, suc, true, false, List, [], ◌∷◌, Option, Some, None, refl, codes}
use Rattle.wsegment.specs.Declaration.{Declaration}
use Rattle.wsegment.specs.declared.kind.Kind.TheVariants as kinds
use Rattle.wquery.specs.declared.expression.Operator.TheVariants.{Plus}
use Rattle.wquery.specs.declared.expression.Comparison.TheVariants.{Greater}
use Rattle.wquery.specs.declared.expression.ChainKind.TheVariants.{Sum as Addition}
use Rattle.wquery.specs.declared.frame.Frame.{Frame}
use Rattle.wquery.specs.declared.frame.FrameMode.TheVariants as modes
use Rattle.wquery.specs.declared.frame.FrameBound.{FrameBound}
use Rattle.wquery.specs.declared.frame.FrameBound.TheVariants as bounds
use Rattle.wquery.specs.Tree.{Tree, NullWord, Numeral, Quoted, Field, Invoked, Signed, Joined, NoLinks, Further}
use Rattle.wquery.specs.Tree.{Compared, Everything, These, Columns, trees, Unfiltered, FilteredBy, Reach}
use Rattle.wquery.specs.Tree.{ItsGroup, ThatWindow, OwnWindow, NoKeys, MoreKeys, NoTrees, KeyTree}
use Rattle.wquery.specs.GroupElements.{OneSet, Rollup, Cube, Element}
use Rattle.wquery.specs.QueryTree.{Clauses, ItemTree, Computed, AllColumns, QueryTree, Selected, FromTable, FromQuery, EntryTree}
use Rattle.wrules.specs.declared.rule.Rule.TheVariants.{UnknownTable, UnknownColumn, AmbiguousName, WrongCall, WrongType}
use Rattle.wrules.specs.declared.rule.Rule.TheVariants.{MisplacedWindowCall, MisplacedAggregate, UngroupedColumn, WrongFilter}
use Rattle.wrules.specs.declared.rule.Rule.TheVariants.{UnknownWindow, RepeatedWindow, WrongCopy, WrongBounds, UnorderedGroups}
use Rattle.wrules.specs.declared.rule.Rule.TheVariants.{WrongRangeKey, ZeroCount, WrongPlace, OverLimit, TooManySets}
use Rattle.wrules.specs.declared.rule.Rule.{Rule}
use Rattle.wrules.specs.Rules.{first_broken_rule}

abbrev pub declared : Declaration
declared = record {
  table = codes "sales";
  columns = record { name = codes "day"; kind = kinds.Integer } ∷ record {
    name =
        codes "shop";
    kind = kinds.Text;
  } ∷ record { name = codes "amount"; kind = kinds.Integer } ∷ [];
}

abbrev pub column : List ℕ → Tree
column name = Field None name

abbrev pub day : Tree
day = column (codes "day")

abbrev pub shop : Tree
shop = column (codes "shop")

abbrev pub amount : Tree
amount = column (codes "amount")

abbrev pub call : List ℕ → List Tree → Reach → Tree
call name arguments reach = Invoked name (These (trees arguments)) Unfiltered reach

abbrev count_all : Reach → Tree
count_all reach = Invoked (codes "count") Everything Unfiltered reach

abbrev ascending : Tree → KeyTree
ascending t = record { expression = t; descending = false; nulls = None }

abbrev frame : FrameBound → Option FrameBound → Option Frame
frame start end = Some (record { mode = modes.Rows; start = start; end = end; exclusion = None })

abbrev by : Tree → Option Frame → Reach
by key f = OwnWindow None NoTrees (MoreKeys key false None NoKeys) f

abbrev unordered : Option Frame → Reach
unordered f = OwnWindow None NoTrees NoKeys f

abbrev pub clauses : List ItemTree → Clauses
clauses items = record {
  items = items;
  condition = None;
  grouping = [];
  having = None;
  windows = [];
  order = [];
  limit =
      None;
  offset = None;
}

abbrev pub item : Tree → ItemTree
item t = Computed t None

abbrev named : Tree → List ℕ → ItemTree
named t alias = Computed t (Some alias)

abbrev pub from_sales : Clauses → QueryTree
from_sales c = Selected c (FromTable (codes "sales") None)

abbrev select : List ItemTree → QueryTree
select items = from_sales (clauses items)

abbrev select_one : Tree → QueryTree
select_one t = select (item t ∷ [])

abbrev select_by : List ItemTree → Tree → QueryTree
select_by items key = from_sales (record (clauses items) { order = ascending key ∷ [] })

abbrev judged : QueryTree → Option Rule
judged q = first_broken_rule declared q

-- SELECT dy FROM other; SELECT dy + 'a' FROM sales; SELECT day + 'a' FROM sales; SELECT day + 1 FROM sales
other_table : judged (Selected (clauses (item (column (codes "dy")) ∷ [])) (FromTable (codes "other") None)) ≡ Some UnknownTable
other_table = refl

lacking : judged (select_one (Joined Addition (column (codes "dy")) (Further NoLinks Plus (Quoted (codes "a"))))) ≡ Some UnknownColumn
lacking = refl

ill_typed : judged (select_one (Joined Addition day (Further NoLinks Plus (Quoted (codes "a"))))) ≡ Some WrongType
ill_typed = refl

well_typed : judged (select_one (Joined Addition day (Further NoLinks Plus (Numeral 1)))) ≡ None
well_typed = refl

-- SELECT day AS d, shop AS d FROM sales ORDER BY d; with `day AS d` and `sales.day AS d`; SELECT *, day, * .. ORDER BY day
two_outputs : judged (select_by (named day (codes "d") ∷ named shop (codes "d") ∷ []) (column (codes "d"))) ≡ Some AmbiguousName
two_outputs = refl

equal_outputs : judged (select_by (named day (codes "d") ∷ named (Field (Some (codes "sales")) (codes "day")) (codes "d")
    ∷ []) (column (codes "d"))) ≡ None
equal_outputs = refl

starred_twice : judged (select_by (AllColumns ∷ item day ∷ AllColumns ∷ []) day) ≡ None
starred_twice = refl

-- SELECT x.day FROM sales
other_alias : judged (select_one (Field (Some (codes "x")) (codes "day"))) ≡ Some UnknownTable
other_alias = refl

-- SELECT day FROM sales ORDER BY shop, 1; ORDER BY 2; ORDER BY 0; ORDER BY -1; ORDER BY 'a'
first_place : judged (from_sales (record (clauses (item day ∷ [])) { order = ascending shop ∷ ascending (Numeral 1) ∷ [] })) ≡ None
first_place = refl

second_place : judged (select_by (item day ∷ []) (Numeral 2)) ≡ Some WrongPlace
second_place = refl

no_place : judged (select_by (item day ∷ []) (Numeral 0)) ≡ Some WrongPlace
no_place = refl

signed_place : judged (select_by (item day ∷ []) (Signed true (Numeral 1))) ≡ Some WrongPlace
signed_place = refl

text_place : judged (select_by (item day ∷ []) (Quoted (codes "a"))) ≡ Some WrongPlace
text_place = refl

-- SELECT day, count(*) FROM sales; SELECT day FROM sales WHERE count(*) > 1; SELECT rank() FROM sales
ungrouped : judged (select (item day ∷ item (count_all ItsGroup) ∷ [])) ≡ Some UngroupedColumn
ungrouped = refl

counted_rows : judged (from_sales (record (clauses (item day ∷ [])) {
  condition =
      Some (Compared Greater (count_all ItsGroup) (Numeral 1));
})) ≡ Some MisplacedAggregate
counted_rows = refl

bare_rank : judged (select_one (call (codes "rank") [] ItsGroup)) ≡ Some MisplacedWindowCall
bare_rank = refl

-- SELECT * FROM sales GROUP BY day; SELECT sum(sum(amount)) FROM sales; SELECT sum(sum(amount)) OVER () .. GROUP BY shop
starred_group : judged (from_sales (record (clauses (AllColumns ∷ [])) { grouping = (OneSet (day ∷ []) ∷ []) ∷ [] })) ≡ Some UngroupedColumn
starred_group = refl

nested_sum : judged (select_one (call (codes "sum") (call (codes "sum") (amount ∷ []) ItsGroup ∷ []) ItsGroup)) ≡ Some MisplacedAggregate
nested_sum = refl

sum_of_sums : judged (from_sales (record
    (clauses (item (call (codes "sum") (call (codes "sum") (amount ∷ []) ItsGroup ∷ []) (unordered None))
    ∷ [])) { grouping = (OneSet (shop ∷ []) ∷ []) ∷ [] })) ≡ None
sum_of_sums = refl

-- a FILTER with an aggregate: without OVER, and with OVER
filtered_by_count : judged (select_one (Invoked (codes "count") Everything
    (FilteredBy (Compared Greater (count_all ItsGroup) (Numeral 1))) ItsGroup)) ≡ Some MisplacedAggregate
filtered_by_count = refl

filtered_over : judged (select_one (Invoked (codes "count") Everything
    (FilteredBy (Compared Greater (count_all ItsGroup) (Numeral 1))) (unordered None))) ≡ None
filtered_over = refl

-- SELECT f(day) FROM sales; lag(day, day) OVER (); lag(day, 1, 'a') OVER (); lag(day, 1, NULL) OVER (); rank(*) OVER ()
unknown_function : judged (select_one (call (codes "f") (day ∷ []) ItsGroup)) ≡ Some WrongCall
unknown_function = refl

counted_by_column : judged (select_one (call (codes "lag") (day ∷ day ∷ []) (unordered None))) ≡ Some WrongCall
counted_by_column = refl

text_default : judged (select_one (call (codes "lag") (day ∷ Numeral 1 ∷ Quoted (codes "a") ∷ []) (unordered None))) ≡ Some WrongType
text_default = refl

null_default : judged (select_one (call (codes "lag") (day ∷ Numeral 1 ∷ NullWord ∷ []) (unordered None))) ≡ None
null_default = refl

plus_default : judged (select_one (call (codes "lag") (day ∷ Numeral 1 ∷ Signed false (Numeral 5) ∷ []) (unordered None))) ≡ Some WrongCall
plus_default = refl

rank_of_all : judged (select_one (Invoked (codes "rank") Everything Unfiltered (unordered None))) ≡ Some WrongCall
rank_of_all = refl

-- rank() FILTER (WHERE day > 1) OVER ()
filtered_rank : judged (select_one (Invoked (codes "rank") (These NoTrees) (FilteredBy (Compared Greater day (Numeral 1)))
    (unordered None))) ≡ Some WrongFilter
filtered_rank = refl

-- count(*) OVER v
unknown_window : judged (select_one (count_all (ThatWindow (codes "v")))) ≡ Some UnknownWindow
unknown_window = refl

abbrev entry : List ℕ → Option (List ℕ) → List KeyTree → Option Frame → EntryTree
entry name copied order f = record { name = name; window = record { copied = copied; partition = []; order = order; frame = f } }

abbrev with_windows : List EntryTree → Tree → QueryTree
with_windows es t = from_sales (record (clauses (item t ∷ [])) { windows = es })

-- WINDOW v AS (w), w AS (); WINDOW w AS (), w AS (); the windows are used by nobody
later_window : judged (with_windows (entry (codes "v") (Some (codes "w")) [] None ∷ entry (codes "w") None [] None ∷ [])
    day) ≡ Some UnknownWindow
later_window = refl

two_windows : judged (with_windows (entry (codes "w") None [] None ∷ entry (codes "w") None [] None ∷ []) day) ≡ Some RepeatedWindow
two_windows = refl

-- sum(amount) OVER (w ROWS 1 PRECEDING) .. WINDOW w AS (ORDER BY day ROWS 2 PRECEDING); OVER w
abbrev w_by_day : EntryTree
w_by_day = entry (codes "w") None (ascending day ∷ []) (frame (bounds.Preceding 2) None)

copied_frame : judged (with_windows (w_by_day ∷ []) (call (codes "sum") (amount ∷ []) (OwnWindow (Some (codes "w")) NoTrees
    NoKeys (frame (bounds.Preceding 1) None)))) ≡ Some WrongCopy
copied_frame = refl

whole_window : judged (with_windows (w_by_day ∷ []) (call (codes "sum") (amount ∷ []) (ThatWindow (codes "w")))) ≡ None
whole_window = refl

-- an order that is inherited twice: WINDOW w AS (ORDER BY day), v AS (w), u AS (v ORDER BY day)
ordered_again : judged (with_windows (entry (codes "w") None (ascending day ∷ []) None ∷ entry (codes "v")
    (Some (codes "w")) [] None ∷ entry (codes "u") (Some (codes "v")) (ascending day ∷ []) None ∷ []) day) ≡ Some WrongCopy
ordered_again = refl

-- ROWS BETWEEN 7 PRECEDING AND 8 PRECEDING; ROWS 2 FOLLOWING; an unused window with ROWS 2 FOLLOWING
later_before : judged (select_one (count_all (unordered (frame (bounds.Preceding 7) (Some (bounds.Preceding 8)))))) ≡ None
later_before = refl

late_start : judged (select_one (count_all (unordered (frame (bounds.Following 2) None)))) ≡ Some WrongBounds
late_start = refl

unused_start : judged (with_windows (entry (codes "w") None [] (frame (bounds.Following 2) None) ∷ []) day) ≡ Some WrongBounds
unused_start = refl

abbrev ranged : Tree → FrameBound → Option FrameBound → Tree
ranged key start end = count_all (by key (Some (record { mode = modes.Range; start = start; end = end; exclusion = None })))

-- count(*) OVER (ORDER BY day RANGE BETWEEN 9223372036854775807 PRECEDING AND .. FOLLOWING); with 9223372036854775808
longest : judged (select_one (ranged day (bounds.Preceding 9223372036854775807) (Some (bounds.Following 9223372036854775807)))) ≡ None
longest = refl

too_long : judged (select_one (ranged day (bounds.Preceding 9223372036854775808)
    (Some (bounds.Following 9223372036854775807)))) ≡ Some WrongBounds
too_long = refl

-- count(*) OVER (GROUPS 1 PRECEDING); sum(day) OVER (ORDER BY shop RANGE 1 PRECEDING); ORDER BY NULL RANGE 1 PRECEDING
no_groups : judged (select_one (count_all
    (unordered (Some (record { mode = modes.Groups; start = bounds.Preceding 1; end = None; exclusion = None }))))) ≡ Some UnorderedGroups
no_groups = refl

text_key : judged (select_one (ranged shop (bounds.Preceding 1) None)) ≡ Some WrongRangeKey
text_key = refl

null_key : judged (select_one (ranged NullWord (bounds.Preceding 1) None)) ≡ None
null_key = refl

-- ntile(0) OVER (); ntile(7) OVER (ORDER BY day)
no_tiles : judged (select_one (call (codes "ntile") (Numeral 0 ∷ []) (unordered None))) ≡ Some ZeroCount
no_tiles = refl

seven_tiles : judged (select_one (call (codes "ntile") (Numeral 7 ∷ []) (by day None))) ≡ None
seven_tiles = refl

abbrev derived : List ItemTree → QueryTree → QueryTree
derived items q = Selected (clauses items) (FromQuery q (codes "q"))

abbrev two_a : QueryTree
two_a = select (named day (codes "a") ∷ named shop (codes "a") ∷ [])

-- SELECT a FROM (SELECT day AS a, shop AS a FROM sales) AS q; SELECT * of it; SELECT x.a FROM (SELECT dy FROM sales) AS q
two_columns : judged (derived (item (column (codes "a")) ∷ []) two_a) ≡ Some AmbiguousName
two_columns = refl

starred : judged (derived (AllColumns ∷ []) two_a) ≡ None
starred = refl

inner_rule : judged (derived (item (Field (Some (codes "x")) (codes "a")) ∷ []) (select_one (column (codes "dy")))) ≡ Some UnknownColumn
inner_rule = refl

-- SELECT sum(a) FROM (SELECT NULL AS a FROM sales) AS q; max(a)
null_is_text : judged (derived (item (call (codes "sum") (column (codes "a") ∷ []) ItsGroup) ∷ [])
    (select (named NullWord (codes "a") ∷ []))) ≡ Some WrongType
null_is_text = refl

null_has_maximum : judged (derived (item (call (codes "max") (column (codes "a") ∷ []) ItsGroup) ∷ [])
    (select (named NullWord (codes "a") ∷ []))) ≡ None
null_has_maximum = refl

-- derived tables one in another; the outermost query's own rules come first
abbrev nested : ℕ → QueryTree
nested zero = select_one day
nested (suc n) = derived (item day ∷ []) (nested n)

eight_deep : judged (nested 8) ≡ None
eight_deep = refl

nine_deep : judged (nested 9) ≡ Some OverLimit
nine_deep = refl

nine_deep_and_wrong : judged (derived (item (column (codes "dy")) ∷ []) (nested 8)) ≡ Some UnknownColumn
nine_deep_and_wrong = refl

-- 16 and 17 keys
abbrev days : ℕ → List KeyTree
days zero = []
days (suc n) = ascending day ∷ days n

sixteen_keys : judged (from_sales (record (clauses (item day ∷ [])) { order = days 16 })) ≡ None
sixteen_keys = refl

seventeen_keys : judged (from_sales (record (clauses (item day ∷ [])) { order = days 17 })) ≡ Some OverLimit
seventeen_keys = refl

-- SELECT day FROM sales GROUP BY ..
abbrev grouped : List (Element Tree) → QueryTree
grouped elements = from_sales (record (clauses (item day ∷ [])) { grouping = elements })

abbrev cube_of : ℕ → Element Tree
cube_of n = Cube (parts n) ∷ []
  where
    parts : ℕ → List (List Tree)
    parts zero = []
    parts (suc n) = (day ∷ []) ∷ parts n

-- CUBE of 6 parts, of 7 and of 17; two CUBEs of 3, and these beside a ROLLUP
six_cubed : judged (grouped (cube_of 6 ∷ [])) ≡ None
six_cubed = refl

seven_cubed : judged (grouped (cube_of 7 ∷ [])) ≡ Some TooManySets
seven_cubed = refl

twice_three_cubed : judged (grouped (cube_of 3 ∷ cube_of 3 ∷ [])) ≡ None
twice_three_cubed = refl

rolled_up_and_cubed : judged (grouped (cube_of 3 ∷ cube_of 3 ∷ (Rollup ((day ∷ []) ∷ []) ∷ []) ∷ [])) ≡ Some TooManySets
rolled_up_and_cubed = refl

seventeen_cubed : judged (grouped (cube_of 17 ∷ [])) ≡ Some OverLimit
seventeen_cubed = refl

-- nine derived tables one in another with too many sets in the outermost query, and eight
abbrev cubed_over : QueryTree → QueryTree
cubed_over q = Selected (record (clauses (item day ∷ [])) { grouping = cube_of 7 ∷ [] }) (FromQuery q (codes "q"))

nine_deep_and_cubed : judged (cubed_over (nested 8)) ≡ Some OverLimit
nine_deep_and_cubed = refl

eight_deep_and_cubed : judged (cubed_over (nested 7)) ≡ Some TooManySets
eight_deep_and_cubed = refl

-- a derived table's sets come before the names of the query over it
inner_sets : judged (derived (item (column (codes "dy")) ∷ []) (grouped (cube_of 7 ∷ []))) ≡ Some TooManySets
inner_sets = refl

-- GROUPING without GROUP BY, in WHERE, in an aggregate's argument, of a column outside GROUP BY, of 31 and of 32 columns
abbrev grouping : List Tree → Tree
grouping columns = Invoked (codes "grouping") (Columns (trees columns)) Unfiltered ItsGroup

grouping_alone : judged (select_one (grouping (day ∷ []))) ≡ Some UngroupedColumn
grouping_alone = refl

grouping_in_where : judged (from_sales (record (clauses (item day ∷ [])) {
  condition =
      Some (Compared Greater (grouping (day ∷ [])) (Numeral 0));
})) ≡ Some MisplacedAggregate
grouping_in_where = refl

abbrev by_day : Tree → QueryTree
by_day t = from_sales (record (clauses (item t ∷ [])) { grouping = (OneSet (day ∷ []) ∷ []) ∷ [] })

grouping_in_sum : judged (by_day (call (codes "sum") (grouping (day ∷ []) ∷ []) ItsGroup)) ≡ Some MisplacedAggregate
grouping_in_sum = refl

grouping_over_groups : judged (by_day (call (codes "sum") (grouping (day ∷ []) ∷ []) (unordered None))) ≡ None
grouping_over_groups = refl

grouping_of_another : judged (by_day (grouping (day ∷ shop ∷ []))) ≡ Some UngroupedColumn
grouping_of_another = refl

abbrev day_times : ℕ → List Tree
day_times zero = []
day_times (suc n) = day ∷ day_times n

grouping_of_many : judged (by_day (grouping (day_times 31))) ≡ None
grouping_of_many = refl

grouping_of_too_many : judged (by_day (grouping (day_times 32))) ≡ Some WrongCall
grouping_of_too_many = refl
