-- The rules on groups, of where calls and columns may stand: Q15, Q16 and Q17. (SQL, `<window function>`, `<set function
-- specification>` and `<group by clause>`.)
use Rattle.std.specs.Prelude.{Bool, true, false, ◌||◌, ◌&&◌, not, List, [], ◌∷◌, is_some, if◌then◌else◌}
use Rattle.std.specs.List.{list_any}
use Rattle.wquery.specs.Tree.{Tree, Field, Invoked, Columns, Reach, ItsGroup}
use Rattle.wquery.specs.GroupElements.{all_columns}
use Rattle.wquery.specs.QueryTree.{Clauses}
use Rattle.wscope.specs.declared.look.Look.{Look}
use Rattle.wscope.specs.declared.look.Look.TheVariants.{Found, Closed, Below}
use Rattle.wscope.specs.Seeking.{some_below}
use Rattle.wscope.specs.Called.{is_star, names}
use Rattle.wscope.specs.Types.{Titled}
use Rattle.wscope.specs.Scope.{some_anywhere, some_entry, some_option, some_shown}
use Rattle.wnames.specs.Calls.{is_group_function}
use Rattle.wscope.specs.Finding.{finds}

-- with OVER
abbrev pub is_over : Reach → Bool
is_over ItsGroup = false
is_over _ = true

-- a call with OVER
abbrev pub is_window_call : Tree → Bool
is_window_call (Invoked name given filter reach) = is_over reach
is_window_call _ = false

-- a call with OVER stands in an argument, in FILTER or in the window of this call, or this call has no OVER and is neither
-- of an aggregate nor GROUPING
abbrev pub is_misplaced_window_call : Tree → Bool
is_misplaced_window_call (Invoked name given filter reach) =
    some_below (finds is_window_call) (Invoked name given filter reach) || (not (is_over reach) && not (is_group_function name given))
is_misplaced_window_call _ = false

-- Q15: a call with OVER in WHERE, HAVING, FILTER, an argument of a call, or a window; a function that is no aggregate
-- without OVER
abbrev pub breaks_window_places : List Titled → Clauses → Bool
breaks_window_places cs c =
    some_option (finds is_window_call) c.condition || (some_option (finds is_window_call) c.having
    || (some_entry (finds is_window_call) c.windows || some_anywhere cs c (finds is_misplaced_window_call)))

-- an aggregate without OVER, or GROUPING
abbrev pub is_group_call : Tree → Bool
is_group_call (Invoked name given filter ItsGroup) = is_group_function name given
is_group_call _ = false

-- an aggregate without OVER, in whose arguments or FILTER another one, or GROUPING, stands
abbrev pub is_nested_group_call : Tree → Bool
is_nested_group_call t = is_group_call t && some_below (finds is_group_call) t

-- Q16: an aggregate without OVER, or GROUPING, in WHERE, or in an argument or FILTER of an aggregate without OVER
abbrev pub breaks_aggregate_places : List Titled → Clauses → Bool
breaks_aggregate_places cs c = some_option (finds is_group_call) c.condition || some_anywhere cs c (finds is_nested_group_call)

abbrev pub has_some : {X : Type 0} → List X → Bool
has_some [] = false
has_some (x ∷ xs) = true

-- GROUP BY, HAVING, or an aggregate without OVER, or GROUPING, in the SELECT list, WINDOW or ORDER BY
abbrev pub is_grouped : List Titled → Clauses → Bool
is_grouped cs c = has_some c.grouping || (is_some c.having || some_shown cs c (finds is_group_call))

-- GROUPING
abbrev pub has_columns : Tree → Bool
has_columns (Invoked name (Columns ts) filter reach) = true
has_columns _ = false

-- a column outside GROUP BY is found, one of GROUPING too, and arguments and FILTER of aggregates without OVER are closed
abbrev pub sees_ungrouped : List Tree → Tree → Look
sees_ungrouped grouping (Field qualifier name) = if list_any (names name) grouping then Below else Found
sees_ungrouped grouping t = if has_columns t then Below else if is_group_call t then Closed else Below

abbrev pub is_ungrouped_column : List Tree → Titled → Bool
is_ungrouped_column grouping c = not (list_any (names c.name) grouping)

-- a column outside GROUP BY in the SELECT list, where `*` names all columns, in WINDOW, ORDER BY or HAVING
abbrev pub names_ungrouped : List Titled → Clauses → Bool
names_ungrouped cs c =
    some_shown cs c (sees_ungrouped (all_columns c.grouping)) || (some_option (sees_ungrouped (all_columns c.grouping)) c.having
    || (list_any is_star c.items && list_any (is_ungrouped_column (all_columns c.grouping)) cs))

-- Q17: a grouped query names, outside arguments and FILTER of aggregates without OVER and outside WHERE, a column that is
-- not in GROUP BY; so does one that has GROUPING and no GROUP BY
abbrev pub breaks_grouping : List Titled → Clauses → Bool
breaks_grouping cs c = is_grouped cs c && names_ungrouped cs c
