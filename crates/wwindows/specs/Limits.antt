-- The rule on limits: Q27.
use Rattle.std.specs.Prelude.{ℕ, Bool, false, ◌||◌, ◌+◌, min, nat_lt, List, [], ◌∷◌, length}
use Rattle.std.specs.List.{list_any}
use Rattle.wquery.specs.Tree.{Tree, Invoked, Reach, ItsGroup, ThatWindow, OwnWindow, KeyTree, own_window}
use Rattle.wquery.specs.QueryTree.{Clauses, ItemTree, AllColumns, Computed, EntryTree}
use Rattle.wscope.specs.Types.{Titled}
use Rattle.wscope.specs.Scope.{some_anywhere}
use Rattle.wnodes.specs.Nodes.{count_trees, count_keys, Findings, found}
use Rattle.wscope.specs.Finding.{finds}
use Rattle.wgroupby.specs.Rules.{breaks_lists}
use Rattle.wwindows.specs.Order.{count_items}
use Rattle.wwindows.specs.Windows.{reach_is}

-- one, of a call over a window of its own
abbrev pub has_own : Reach → ℕ
has_own ItsGroup = 0
has_own (ThatWindow name) = 0
has_own (OwnWindow copied partition order frame) = 1

abbrev pub with_own : Tree → ℕ → ℕ
with_own (Invoked name given filter reach) below = has_own reach + below
with_own _ below = below

abbrev pub counting : Findings ℕ
counting = record { none = 0; both = λ m n. m + n; at = λ t below. with_own t below }

-- how often OVER stands with parentheses in an expression
abbrev pub count_over : Tree → ℕ
count_over t = found counting t

abbrev pub over_items : List ItemTree → ℕ
over_items [] = 0
over_items (AllColumns ∷ items) = over_items items
over_items (Computed t alias ∷ items) = count_over t + over_items items

abbrev pub over_order : List KeyTree → ℕ
over_order [] = 0
over_order (k ∷ ks) = count_over k.expression + over_order ks

-- the most items, `*` written out
abbrev pub most_items : ℕ
most_items = 64

-- the most windows: WINDOW entries, and OVER with parentheses
abbrev pub most_windows : ℕ
most_windows = 32

-- the most entries in one list of GROUP BY, PARTITION BY or ORDER BY
abbrev pub most_entries : ℕ
most_entries = 16

-- a number of windows, as far as it matters: to one more than the most
abbrev pub counted : ℕ → ℕ
counted n = min 33 n

-- WINDOW entries, and OVER with parentheses in the SELECT list and the query's ORDER BY, the places where it may stand
abbrev pub count_windows : Clauses → ℕ
count_windows c = length c.windows + (over_items c.items + over_order c.order)

-- too many entries in a list of a call's own window
abbrev pub has_long_list : Reach → Bool
has_long_list (OwnWindow copied partition order frame) = nat_lt most_entries (count_trees partition) || nat_lt most_entries
    (count_keys order)
has_long_list _ = false

abbrev pub is_long_entry : EntryTree → Bool
is_long_entry e = has_long_list (own_window e.window)

-- Q27: over 64 items after `*` is written out, over 32 windows, over 16 entries in one list of GROUP BY, each of its lists
-- in parentheses for itself, of PARTITION BY or ORDER BY
abbrev pub breaks_limits : List Titled → Clauses → Bool
breaks_limits cs c =
    nat_lt most_items (count_items cs c.items) || (nat_lt most_windows (count_windows c)
    || ((breaks_lists c.grouping || nat_lt most_entries (length c.order))
    || (list_any is_long_entry c.windows || some_anywhere cs c (finds (reach_is has_long_list)))))
