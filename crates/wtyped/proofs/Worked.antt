-- For each rule a query that breaks it and no other, of which a law says what does not hold: so none can be dropped. The
-- places of the rules count from 10.
use Rattle.std.proofs.Common.{◌≡◌, Bool, true, false, ℕ, ◌+◌, List, [], ◌∷◌, Option, Some}
use Rattle.std.proofs.Common.{None, codes, refl, sym, true≢false, if◌then◌else◌}
use Rattle.std.proofs.Math.ListN.{replicate}
use Rattle.std.specs.List.{list_all}
use Rattle.wsegment.specs.Declaration.{Declaration}
use Rattle.wsegment.specs.declared.kind.Kind.TheVariants as kinds
use Rattle.wquery.specs.declared.expression.ChainKind.TheVariants.{Sum}
use Rattle.wquery.specs.declared.expression.Operator.TheVariants.{Plus}
use Rattle.wquery.specs.declared.expression.Comparison.TheVariants.{Equal}
use Rattle.wquery.specs.declared.frame.FrameMode.{FrameMode}
use Rattle.wquery.specs.declared.frame.FrameMode.TheVariants.{Rows, Range, Groups}
use Rattle.wquery.specs.declared.frame.FrameBound.{FrameBound}
use Rattle.wquery.specs.declared.frame.FrameBound.TheVariants.{UnboundedPreceding, Preceding, CurrentRow}
use Rattle.wquery.specs.GroupElements.{Element, OneSet, Rollup, Cube}
use Rattle.wquery.specs.QueryTree.{Clauses, QueryTree, Selected, SourceTree, FromTable, FromQuery}
use Rattle.wquery.specs.QueryTree.{ItemTree, EntryTree, AllColumns, Computed}
use Rattle.wquery.specs.Tree.{Tree, NullWord, Numeral, Field, Invoked, Joined, Compared, NoTrees, MoreTrees, NoLinks, Further, Everything}
use Rattle.wquery.specs.Tree.{These, Filter, Unfiltered, FilteredBy, Reach, ItsGroup, OwnWindow, Keys, NoKeys, MoreKeys, no_window}
use Rattle.wscope.specs.declared.data_type.DataType.{DataType}
use Rattle.wscope.specs.declared.data_type.DataType.TheVariants.{Integer, Text}
use Rattle.wscope.specs.Sources.{answer_columns, declared_columns, origin_of}
use Rattle.wnames.specs.Calls.{breaks_calls, breaks_filters, breaks_zeroths}
use Rattle.wnames.specs.Names.{breaks_ambiguity, breaks_columns, breaks_tables}
use Rattle.wnames.specs.Groups.{breaks_aggregate_places, breaks_grouping, breaks_window_places}
use Rattle.wnames.specs.Types.{breaks_types}
use Rattle.wwindows.specs.Limits.{breaks_limits}
use Rattle.wwindows.specs.Order.{breaks_places}
use Rattle.wwindows.specs.Windows.{breaks_bounds, breaks_copies, breaks_entries, breaks_groups}
use Rattle.wwindows.specs.Windows.{breaks_ranges, breaks_window_names, windows_of}
use Rattle.wgroupby.specs.Rules.{breaks_sets}
use Rattle.wrules.specs.Rules.{first_broken_rule}
use Rattle.wresolve.specs.Selecting.{resolved_query}
use Rattle.wtyped.specs.Bounded.{is_bounded, is_short_query}
use Rattle.wtyped.specs.Laws.{types_of}
use Rattle.wtyped.specs.Plans.{query_types}
use Rattle.wtyped.specs.Scoped.{DenotesQuery}

abbrev t : Declaration
t = record {
  table = codes "t";
  columns = record { name = codes "a"; kind = kinds.Integer } ∷ record {
    name = codes "b";
    kind = kinds.Integer;
  } ∷ record { name = codes "s"; kind = kinds.Text } ∷ [];
}

abbrev a : Tree
a = Field None (codes "a")

abbrev b : Tree
b = Field None (codes "b")

abbrev s : Tree
s = Field None (codes "s")

abbrev from : SourceTree
from = FromTable (codes "t") None

abbrev clauses : List ItemTree → Clauses
clauses is = record { items = is; condition = None; grouping = []; having = None; windows = []; order = []; limit = None; offset = None }

abbrev one : Tree → List ItemTree
one e = Computed e None ∷ []

abbrev select : Tree → QueryTree
select e = Selected (clauses (one e)) from

abbrev where_is : Tree → QueryTree
where_is e = Selected (record (clauses (one a)) { condition = Some e }) from

abbrev grouped : List (Element Tree) → QueryTree
grouped es = Selected (record (clauses (one a)) { grouping = es }) from

abbrev with_windows : Tree → List EntryTree → QueryTree
with_windows e ws = Selected (record (clauses (one e)) { windows = ws }) from

-- w AS ()
abbrev w : EntryTree
w = record { name = codes "w"; window = no_window }

abbrev rank : Filter → Reach → Tree
rank filter reach = Invoked (codes "rank") (These NoTrees) filter reach

abbrev ranked : FrameMode → FrameBound → Option FrameBound → Keys → QueryTree
ranked mode start end keys = select (rank Unfiltered
    (OwnWindow None NoTrees keys (Some (record { mode = mode; start = start; end = end; exclusion = None }))))

abbrev over_all : Reach
over_all = OwnWindow None NoTrees NoKeys None

-- the rules that a query breaks, its derived table aside
abbrev tests : QueryTree → List Bool
tests (Selected c source) =
    let o = origin_of t source in let cs = o.columns in let ws = windows_of c in
    breaks_tables t.table o.alias cs c source ∷ breaks_columns cs c ∷ breaks_ambiguity cs c ∷ breaks_calls cs c
    ∷ breaks_types cs c ∷ breaks_window_places cs c ∷ breaks_aggregate_places cs c ∷ breaks_grouping cs c
    ∷ breaks_filters cs c ∷ breaks_window_names ws cs c ∷ breaks_entries c.windows ∷ breaks_copies ws cs c ∷ breaks_bounds
    ws cs c ∷ breaks_groups ws cs c ∷ breaks_ranges ws cs c ∷ breaks_zeroths cs c ∷ breaks_places cs c ∷ breaks_limits
    cs c ∷ breaks_sets c.grouping ∷ []

-- the places, from this one on, of those that are true
abbrev places_true : ℕ → List Bool → List ℕ
places_true n [] = []
places_true n (b ∷ bs) = if b then n ∷ places_true (n + 1) bs else places_true (n + 1) bs

abbrev Breaks : QueryTree → ℕ → Type 0
Breaks q n = places_true 10 (tests q) ≡ n ∷ []

abbrev typed : QueryTree → Option (List DataType)
typed q = query_types (Some (types_of (declared_columns t.columns))) (resolved_query t q)

-- it breaks the rule of this place alone, and then: it has no type
abbrev IsUntyped : QueryTree → ℕ → Type 0
IsUntyped q n = Breaks q n × (typed q ≡ None)

-- some word of it denotes nothing
abbrev IsUndenoted : QueryTree → ℕ → Type 0
IsUndenoted q n = Breaks q n × ¬ (DenotesQuery t q)

-- its plan asks for too much, or for no more than the limits
abbrev IsBounded : Bool → QueryTree → ℕ → Type 0
IsBounded bounded q n = Breaks q n × (list_all is_bounded (resolved_query t q) ≡ bounded)

-- its lists are too long
abbrev IsLong : QueryTree → ℕ → Type 0
IsLong q n = Breaks q n × (is_short_query q ≡ false)

-- one that breaks none
accepted : (first_broken_rule t (select a) ≡ None) × (typed (select a) ≡ Some (Integer ∷ []))
accepted = (refl, refl)

-- SELECT x.a FROM t
other_alias : IsUndenoted (select (Field (Some (codes "x")) (codes "a"))) 10
other_alias = (refl, λ h. true≢false (sym h.0.items.0.0.0))

-- SELECT x FROM t
no_column : IsUntyped (select (Field None (codes "x"))) 11
no_column = (refl, refl)

-- SELECT * FROM (SELECT a, a FROM t) d GROUP BY a
abbrev two_columns : QueryTree
two_columns = Selected (record (clauses (AllColumns ∷ [])) { grouping = (OneSet (a ∷ []) ∷ []) ∷ [] })
    (FromQuery (Selected (clauses (Computed a None ∷ Computed a None ∷ [])) from) (codes "d"))

two_columns_untyped : IsUntyped two_columns 12
two_columns_untyped = (refl, refl)

-- SELECT lag(NULL, 1, a) OVER () FROM t: of another type than its column
abbrev column_for_literal : QueryTree
column_for_literal = select (Invoked (codes "lag")
    (These (MoreTrees NullWord (MoreTrees (Numeral 1) (MoreTrees a NoTrees)))) Unfiltered over_all)

column_for_literal_typed : Breaks column_for_literal 13 × (typed column_for_literal ≡ Some (Text ∷ []))
    × (types_of (answer_columns t column_for_literal) ≡ Integer ∷ [])
column_for_literal_typed = (refl, refl, refl)

-- SELECT a + s FROM t
sum_of_text : IsUntyped (select (Joined Sum a (Further NoLinks Plus s))) 14
sum_of_text = (refl, refl)

-- SELECT a FROM t WHERE rank() OVER () = 1
rank_in_where : IsUntyped (where_is (Compared Equal (rank Unfiltered over_all) (Numeral 1))) 15
rank_in_where = (refl, refl)

-- SELECT a FROM t WHERE count(*) = 1
count_in_where : IsUntyped (where_is (Compared Equal (Invoked (codes "count") Everything Unfiltered ItsGroup) (Numeral 1))) 16
count_in_where = (refl, refl)

-- SELECT a FROM t GROUP BY b
outside_groups : IsUntyped (grouped ((OneSet (b ∷ []) ∷ []) ∷ [])) 17
outside_groups = (refl, refl)

-- SELECT rank() FILTER (WHERE a = 1) OVER () FROM t
filtered_rank : IsUndenoted (select (rank (FilteredBy (Compared Equal a (Numeral 1))) over_all)) 18
filtered_rank = (refl, λ h. true≢false (sym h.0.items.0.0.0))

-- SELECT rank() OVER (w) FROM t
unknown_window : IsUndenoted (select (rank Unfiltered (OwnWindow (Some (codes "w")) NoTrees NoKeys None))) 19
unknown_window = (refl, λ h. true≢false (sym h.0.items.0.0.1))

-- SELECT a FROM t WINDOW w AS (), w AS ()
two_windows : IsUndenoted (with_windows a (w ∷ w ∷ [])) 20
two_windows = (refl, λ h. true≢false h.0.entries.2.0)

-- SELECT rank() OVER (w PARTITION BY a) FROM t WINDOW w AS ()
copy_with_partition : IsUndenoted (with_windows (rank Unfiltered (OwnWindow (Some (codes "w")) (MoreTrees a NoTrees) NoKeys
    None)) (w ∷ [])) 21
copy_with_partition = (refl, λ h. true≢false (sym h.0.items.0.0.1))

-- SELECT rank() OVER (ROWS BETWEEN CURRENT ROW AND 1 PRECEDING) FROM t
falling_bounds : IsUntyped (ranked Rows CurrentRow (Some (Preceding 1)) NoKeys) 22
falling_bounds = (refl, refl)

-- SELECT rank() OVER (GROUPS UNBOUNDED PRECEDING) FROM t
unordered_groups : IsUntyped (ranked Groups UnboundedPreceding None NoKeys) 23
unordered_groups = (refl, refl)

-- SELECT rank() OVER (ORDER BY s RANGE 1 PRECEDING) FROM t
range_of_text : IsUntyped (ranked Range (Preceding 1) None (MoreKeys s false None NoKeys)) 24
range_of_text = (refl, refl)

-- SELECT ntile(0) OVER () FROM t
no_tiles : IsUndenoted (select (Invoked (codes "ntile") (These (MoreTrees (Numeral 0) NoTrees)) Unfiltered over_all)) 25
no_tiles = (refl, λ h. true≢false (sym h.0.items.0.0.0))

-- SELECT a FROM t ORDER BY 5
abbrev fifth_item : QueryTree
fifth_item = Selected (record (clauses (one a)) { order = record { expression = Numeral 5; descending = false; nulls = None } ∷ [] }) from

fifth_item_undenoted : IsUndenoted fifth_item 26
fifth_item_undenoted = (refl, λ h. true≢false (sym h.0.order.0))

-- 65 items
many_items : IsBounded false (Selected (clauses (replicate 65 (Computed a None))) from) 27
many_items = (refl, refl)

-- SELECT a FROM t GROUP BY a, .., a, with 17 elements
many_elements : IsLong (grouped (replicate 17 (OneSet (a ∷ []) ∷ []))) 27
many_elements = (refl, refl)

-- SELECT a FROM t GROUP BY ROLLUP (a, (a, .., a)), with 17 columns in the inner parentheses: of its plan nothing is long
abbrev many_columns : QueryTree
many_columns = grouped ((Rollup ((a ∷ []) ∷ replicate 17 a ∷ []) ∷ []) ∷ [])

many_columns_long : IsLong many_columns 27 × IsBounded true many_columns 27
many_columns_long = ((refl, refl), (refl, refl))

-- SELECT a FROM t GROUP BY CUBE (a, b, s), CUBE (a, b), ROLLUP (a, b)
abbrev many_sets : QueryTree
many_sets = grouped ((Cube ((a ∷ []) ∷ (b ∷ []) ∷ (s ∷ []) ∷ []) ∷ []) ∷ (Cube ((a ∷ []) ∷ (b ∷ []) ∷ []) ∷ [])
    ∷ (Rollup ((a ∷ []) ∷ (b ∷ []) ∷ []) ∷ []) ∷ [])

many_sets_unbounded : IsBounded false many_sets 28
many_sets_unbounded = (refl, refl)
