-- The calls of a SELECT that are computed apart from its expressions, each once: aggregates without OVER, and calls with
-- OVER. (SQL, `<set function specification>` and `<window function>`.)
use Rattle.std.specs.Prelude.{ℕ, Bool, true, false, ◌&&◌, ◌||◌, not, List, [], ◌∷◌, ◌++◌, if◌then◌else◌, Option, Some, None, map}
use Rattle.std.specs.List.{list_any}
use Rattle.std.specs.Borrow.{Bor}
use Rattle.wquery.specs.declared.expression.Call.{Call}
use Rattle.wquery.specs.Tree.{Tree, Invoked, Trees, Links, Given, Columns, Filter, Reach, ItsGroup}
use Rattle.wquery.specs.Tree.{ThatWindow, OwnWindow, Keys, KeyTree, own_window, view_call}
use Rattle.wquery.specs.QueryTree.{Clauses, ItemTree, AllColumns, Computed, EntryTree}
use Rattle.wscope.specs.declared.function.Function.{Function}
use Rattle.wscope.specs.Functions.{function_of, is_aggregate}
use Rattle.wnodes.specs.Nodes.{Findings, found, found_below, found_trees, found_links, found_given, found_filter, found_reach, found_keys}
use Rattle.wnodes.specs.Sameness.{is_same}
use Rattle.wdistinct.specs.declared.distinct_calls.CallKind.{CallKind}
use Rattle.wdistinct.specs.declared.distinct_calls.CallKind.TheVariants.{Grouped, Windowed}

-- with OVER
abbrev pub has_over : Reach → Bool
has_over ItsGroup = false
has_over (ThatWindow name) = true
has_over (OwnWindow copied partition order frame) = true

-- the columns of GROUPING
abbrev pub is_grouping : Given → Bool
is_grouping (Columns ts) = true
is_grouping _ = false

abbrev pub is_aggregate_function : Option Function → Bool
is_aggregate_function None = false
is_aggregate_function (Some f) = is_aggregate f

-- of aggregates without OVER and GROUPING, or of calls with OVER
abbrev pub is_kind : CallKind → List ℕ → Given → Reach → Bool
is_kind Grouped name given reach = not (has_over reach) && (is_grouping given || is_aggregate_function (function_of name))
is_kind Windowed name given reach = has_over reach

abbrev pub is_call_of : CallKind → Tree → Bool
is_call_of kind (Invoked name given filter reach) = is_kind kind name given reach
is_call_of kind _ = false

-- the node where it is looked for, else what stands below it
abbrev pub node_or : Bool → Tree → List Tree → List Tree
node_or true t below = t ∷ []
node_or false t below = below

-- The nodes that are looked for, from the first to the last. Below one that is found none is looked for
abbrev pub picking : (Tree → Bool) → Findings (List Tree)
picking holds = record { none = []; both = λ xs ys. xs ++ ys; at = λ t below. node_or (holds t) t below }

-- of an expression
abbrev pub nodes_in : (Tree → Bool) → Tree → List Tree
nodes_in holds t = found (picking holds) t

abbrev pub nodes_below : (Tree → Bool) → Tree → List Tree
nodes_below holds t = found_below (picking holds) t

abbrev pub nodes_in_trees : (Tree → Bool) → Trees → List Tree
nodes_in_trees holds ts = found_trees (picking holds) ts

abbrev pub nodes_in_links : (Tree → Bool) → Links → List Tree
nodes_in_links holds links = found_links (picking holds) links

abbrev pub nodes_given : (Tree → Bool) → Given → List Tree
nodes_given holds given = found_given (picking holds) given

abbrev pub nodes_in_filter : (Tree → Bool) → Filter → List Tree
nodes_in_filter holds filter = found_filter (picking holds) filter

abbrev pub nodes_in_reach : (Tree → Bool) → Reach → List Tree
nodes_in_reach holds reach = found_reach (picking holds) reach

abbrev pub nodes_in_keys : (Tree → Bool) → Keys → List Tree
nodes_in_keys holds keys = found_keys (picking holds) keys

abbrev pub nodes_in_option : (Tree → Bool) → Option Tree → List Tree
nodes_in_option holds None = []
nodes_in_option holds (Some t) = nodes_in holds t

abbrev pub nodes_in_items : (Tree → Bool) → List ItemTree → List Tree
nodes_in_items holds [] = []
nodes_in_items holds (AllColumns ∷ items) = nodes_in_items holds items
nodes_in_items holds (Computed t alias ∷ items) = nodes_in holds t ++ nodes_in_items holds items

abbrev pub nodes_in_entries : (Tree → Bool) → List EntryTree → List Tree
nodes_in_entries holds [] = []
nodes_in_entries holds (e ∷ es) = nodes_in_reach holds (own_window e.window) ++ nodes_in_entries holds es

abbrev pub nodes_in_order : (Tree → Bool) → List KeyTree → List Tree
nodes_in_order holds [] = []
nodes_in_order holds (k ∷ ks) = nodes_in holds k.expression ++ nodes_in_order holds ks

-- the expressions found so far with those of a list behind them that are equal to none before
abbrev pub with_new : List Tree → List Tree → List Tree
with_new found [] = found
with_new found (t ∷ ts) = with_new (if list_any (λ (u : Tree). is_same u t) found then found else found ++ (t ∷ [])) ts

-- the aggregates without OVER, each once: those of the SELECT list, of HAVING, of the WINDOW entries and of ORDER BY
abbrev pub group_calls : Clauses → List Tree
group_calls c = with_new [] (nodes_in_items (is_call_of Grouped) c.items ++ (nodes_in_option (is_call_of Grouped) c.having
    ++ (nodes_in_entries (is_call_of Grouped) c.windows ++ nodes_in_order (is_call_of Grouped) c.order)))

-- the calls with OVER, each once: those of the SELECT list and of ORDER BY
abbrev pub window_calls : Clauses → List Tree
window_calls c = with_new [] (nodes_in_items (is_call_of Windowed) c.items ++ nodes_in_order (is_call_of Windowed) c.order)

-- calls in memory
abbrev pub call_trees : List (Bor Call) → List Tree
call_trees cs = map (λ c. view_call c.now) cs
