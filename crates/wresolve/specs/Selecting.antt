-- The SELECTs that a query stands for, with each name and default resolved. (SQL, `<query specification>`, `<group by
-- clause>`, `<window clause>`, `<window function>`; PostgreSQL, SELECT, ORDER BY Clause.)
use Rattle.std.specs.Prelude.{ℕ, zero, suc, ◌-◌, Bool, true, false, ◌||◌, List, [], ◌∷◌, ◌++◌, map}
use Rattle.std.specs.Prelude.{length, Option, Some, None, is_some, if◌then◌else◌, unwrap_or}
use Rattle.std.specs.Str.{bytes_eq}
use Rattle.wsegment.specs.Declaration.{Declaration}
use Rattle.wquery.specs.declared.expression.NullOrder.{NullOrder}
use Rattle.wquery.specs.declared.expression.NullOrder.TheVariants.{First, Last}
use Rattle.wquery.specs.declared.frame.Frame.{Frame}
use Rattle.wquery.specs.declared.frame.FrameMode.TheVariants.{Range}
use Rattle.wquery.specs.declared.frame.FrameBound.TheVariants.{UnboundedPreceding, CurrentRow}
use Rattle.wquery.specs.declared.frame.FrameExclusion.{FrameExclusion}
use Rattle.wquery.specs.declared.frame.FrameExclusion.TheVariants.{NoOthers}
use Rattle.wquery.specs.Tree.{Tree, NullWord, Numeral, Field, Invoked, Trees, NoTrees, MoreTrees, Reach}
use Rattle.wquery.specs.Tree.{ItsGroup, ThatWindow, OwnWindow, Keys, NoKeys, MoreKeys, KeyTree}
use Rattle.wquery.specs.GroupElements.{Element, all_columns}
use Rattle.wquery.specs.QueryTree.{Clauses, QueryTree, Selected, SourceTree, FromTable, FromQuery}
use Rattle.wvalues.specs.declared.key.SortKey.{SortKey}
use Rattle.wnodes.specs.Bounds.{end_of}
use Rattle.wnames.specs.Groups.{has_some}
use Rattle.wscope.specs.Types.{Titled}
use Rattle.wscope.specs.Sources.{Shown, Placed, Spelled, ShownItem, written_out, origin_of}
use Rattle.wscope.specs.Windows.{NamedWindow, Expanded, expand, expand_all}
use Rattle.wplan.specs.declared.resolved.ResolvedFrame.{ResolvedFrame}
use Rattle.wplan.specs.Formula.{Formula, At}
use Rattle.wplan.specs.Plans.{GroupingPlan, KeyPlan, WindowPlan, CallPlan, OutputPlan, SelectPlan}
use Rattle.wgroupby.specs.Sets.{query_sets, with_unseen}
use Rattle.wdistinct.specs.Calls.{group_calls, window_calls}
use Rattle.wbinding.specs.Resolving.{Layout, source_row, cell_of, resolved, resolved_option}
use Rattle.wbinding.specs.Functions.{call_function}
use Rattle.wbinding.specs.Groups.{elements_made, group_call_made}

-- windows

-- nulls stand last where nothing is said, and first where the order descends
abbrev pub nulls_first : Bool → Option NullOrder → Bool
nulls_first descending None = descending
nulls_first descending (Some First) = true
nulls_first descending (Some Last) = false

abbrev pub sort_key : Bool → Option NullOrder → SortKey
sort_key descending nulls = record { col = 0; desc = descending; nulls_first = nulls_first descending nulls }

abbrev pub key_made : Formula → Bool → Option NullOrder → KeyPlan
key_made value descending nulls = record { value = value; order = sort_key descending nulls }

abbrev pub trees_made : Layout → Trees → List Formula
trees_made l NoTrees = []
trees_made l (MoreTrees t ts) = resolved l t ∷ trees_made l ts

abbrev pub keys_made : Layout → Keys → List KeyPlan
keys_made l NoKeys = []
keys_made l (MoreKeys t descending nulls more) = key_made (resolved l t) descending nulls ∷ keys_made l more

abbrev pub or_no_others : Option FrameExclusion → FrameExclusion
or_no_others None = NoOthers
or_no_others (Some e) = e

-- the default frame is RANGE UNBOUNDED PRECEDING
abbrev pub frame_made : Option Frame → ResolvedFrame
frame_made None = record { mode = Range; start = UnboundedPreceding; end = CurrentRow; exclusion = NoOthers }
frame_made (Some f) = record { mode = f.mode; start = f.start; end = end_of f; exclusion = or_no_others f.exclusion }

abbrev pub window_made : Layout → Expanded → WindowPlan
window_made l w = record { partition = trees_made l w.partition; keys = keys_made l w.order; frame = frame_made w.frame }

-- the windows of WINDOW entries, used or not
abbrev pub entries_made : Layout → List NamedWindow → List WindowPlan
entries_made l [] = []
entries_made l (w ∷ ws) = window_made l w.window ∷ entries_made l ws

-- a window of its own
abbrev pub is_own_window : Reach → Bool
is_own_window ItsGroup = false
is_own_window (ThatWindow name) = false
is_own_window (OwnWindow copied partition order frame) = true

-- a call with a window of its own
abbrev pub has_own_window : Tree → Bool
has_own_window (Invoked name given filter reach) = is_own_window reach
has_own_window _ = false

-- a window of its own, with what it copies from WINDOW entries
abbrev pub window_of_reach : Layout → List NamedWindow → Reach → List WindowPlan
window_of_reach l ws ItsGroup = []
window_of_reach l ws (ThatWindow name) = []
window_of_reach l ws (OwnWindow copied partition order frame) = window_made l (expand ws copied partition order frame) ∷ []

abbrev pub own_window : Layout → List NamedWindow → Tree → List WindowPlan
own_window l ws (Invoked name given filter reach) = window_of_reach l ws reach
own_window l ws _ = []

-- the windows that calls have of their own, in the order of the calls, with what they copy from WINDOW entries
abbrev pub own_windows : Layout → List NamedWindow → List Tree → List WindowPlan
own_windows l ws [] = []
own_windows l ws (t ∷ ts) = own_window l ws t ++ own_windows l ws ts

-- the place of the first window of this name, or their number
abbrev pub window_place : List NamedWindow → List ℕ → ℕ
window_place [] name = 0
window_place (w ∷ ws) name = if bytes_eq w.name name then 0 else suc (window_place ws name)

abbrev pub place_of_reach : List NamedWindow → ℕ → Reach → ℕ
place_of_reach ws next ItsGroup = next
place_of_reach ws next (ThatWindow name) = window_place ws name
place_of_reach ws next (OwnWindow copied partition order frame) = next

-- the place of a call's window, where the next window of a call's own has this place
abbrev pub place_over : List NamedWindow → ℕ → Tree → ℕ
place_over ws next (Invoked name given filter reach) = place_of_reach ws next reach
place_over ws next _ = next

-- the calls with OVER; their own windows stand behind the WINDOW entries, in the order of the calls
abbrev pub calls_made : Layout → List NamedWindow → ℕ → List Tree → List CallPlan
calls_made l ws next [] = []
calls_made l ws next (t ∷ ts) =
    record { window = place_over ws next t; function = call_function l t } ∷ calls_made l ws
    (if has_own_window t then suc next else next) ts

-- one SELECT

-- the places in the source's row of the columns that GROUP BY names, each once, in the order of first sight
abbrev pub group_columns : List Titled → Clauses → List ℕ
group_columns cs c = with_unseen [] (all_columns (elements_made cs c.grouping))

-- GROUP BY, HAVING, or an aggregate without OVER or GROUPING in the SELECT list, WINDOW or ORDER BY, of which these are all
abbrev pub is_grouped : Clauses → List Tree → Bool
is_grouped c grouped = has_some c.grouping || (is_some c.having || has_some grouped)

-- the row of windows, items and keys: the source's, or GROUP BY's columns and what the group's calls answer; behind it what
-- the calls with OVER answer
abbrev pub shown_row : List Titled → Clauses → List Tree → List Tree → Layout
shown_row cs c grouped windowed = record {
  columns = cs;
  grouping = if is_grouped c grouped then Some (group_columns cs c)
      else None;
  calls = grouped ++ windowed;
}

abbrev pub shown_formula : Layout → Shown → Formula
shown_formula l (Placed place) = At (cell_of l place)
shown_formula l (Spelled t) = resolved l t

abbrev pub output_made : Layout → ShownItem → OutputPlan
output_made l i = record { name = i.name; value = shown_formula l i.shown }

-- the first item of an output name, or else this
abbrev pub called_or : Shown → List ℕ → List ShownItem → Shown
called_or otherwise name [] = otherwise
called_or otherwise name (i ∷ is) = if bytes_eq i.name name then i.shown else called_or otherwise name is

-- the item of a place, counted from 0; NULL where there is none
abbrev pub item_at : ℕ → List ShownItem → Shown
item_at n [] = Spelled NullWord
item_at zero (i ∷ is) = i.shown
item_at (suc n) (i ∷ is) = item_at n is

-- what a key of the query's ORDER BY stands for: a bare number for an item, a bare name for an output first
abbrev pub key_shown : List ShownItem → Tree → Shown
key_shown items (Numeral n) = item_at (n - 1) items
key_shown items (Field None name) = called_or (Spelled (Field None name)) name items
key_shown items t = Spelled t

abbrev pub order_made : Layout → List ShownItem → KeyTree → KeyPlan
order_made l items k = key_made (shown_formula l (key_shown items k.expression)) k.descending k.nulls

-- GROUP BY where the row of windows, items and keys is a group's; its sets are by places in the source's row, the aggregates
-- and GROUPING are over the source's row, HAVING over the group's
abbrev pub grouping_over : List Titled → List (Element ℕ) → List Tree → Layout → Clauses → Option (List ℕ) → Option GroupingPlan
grouping_over cs elements grouped l c None = None
grouping_over cs elements grouped l c (Some places) =
    Some (record {
      columns = places;
      sets = query_sets elements;
      calls = map (group_call_made (source_row cs)) grouped;
      having = resolved_option l c.having;
    })

-- those of WINDOW entries, used or not, and behind them those of calls
abbrev pub windows_made : Layout → List NamedWindow → List Tree → List WindowPlan
windows_made l ws windowed = entries_made l ws ++ own_windows l ws windowed

-- a SELECT over these columns, with these elements of GROUP BY, these aggregates without OVER and GROUPING, and these calls
-- with OVER, whose items are over this row
abbrev pub select_over : List Titled → List (Element ℕ) → List Tree → List Tree → Layout → Clauses → SelectPlan
select_over cs elements grouped windowed l c = record {
  condition = resolved_option (source_row cs) c.condition;
  grouping = grouping_over cs elements grouped l c l.grouping;
  windows = windows_made l (expand_all [] c.windows) windowed;
  calls = calls_made l (expand_all [] c.windows) (length (expand_all [] c.windows)) windowed;
  items = map (output_made l) (written_out cs c.items);
  keys = map (order_made l (written_out cs c.items)) c.order;
  offset = unwrap_or c.offset 0;
  limit = c.limit;
}

-- the same over the row that these calls make
abbrev pub select_with : List Titled → Clauses → List Tree → List Tree → SelectPlan
select_with cs c grouped windowed = select_over cs (elements_made cs c.grouping) grouped windowed (shown_row cs c grouped windowed) c

-- a SELECT over these columns
abbrev pub select_made : List Titled → Clauses → SelectPlan
select_made cs c = select_with cs c (group_calls c) (window_calls c)

-- a query

abbrev mutual
  -- the innermost SELECT first: each is over the answer of the one before, the first over the declared table
  pub resolved_query : Declaration → QueryTree → List SelectPlan
  resolved_query d (Selected c s) = resolved_source d s ++ (select_made (origin_of d s).columns c ∷ [])

  pub resolved_source : Declaration → SourceTree → List SelectPlan
  resolved_source d (FromTable name alias) = []
  resolved_source d (FromQuery q alias) = resolved_query d q
