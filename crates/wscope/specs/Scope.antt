-- Where expressions stand in a query, and what names its ORDER BY may use. (SQL, `<query specification>` and
-- `<order by clause>`; PostgreSQL, SELECT, ORDER BY Clause: an output name first, then an input column.)
use Rattle.std.specs.Prelude.{ℕ, Bool, true, false, ◌||◌, ◌&&◌, not, List, [], ◌∷◌, Option, Some, None, codes}
use Rattle.std.specs.List.{list_any}
use Rattle.std.specs.Str.{bytes_eq}
use Rattle.wquery.specs.Tree.{Tree, Numeral, Field, Invoked, KeyTree, own_window}
use Rattle.wquery.specs.QueryTree.{Clauses, QueryTree, Selected, ItemTree, AllColumns, Computed, EntryTree}
use Rattle.wscope.specs.declared.look.Look.{Look}
use Rattle.wscope.specs.Seeking.{some_node, some_reach}
use Rattle.wscope.specs.Types.{Titled}

-- what a query says beside its source
abbrev pub clauses_of : QueryTree → Clauses
clauses_of (Selected c s) = c

-- a column has this name
abbrev pub has_name : List ℕ → Titled → Bool
has_name name c = bytes_eq c.name name

-- the name of an expression without alias: the column's, else the function's, else `?column?`
abbrev pub own_name : Tree → List ℕ
own_name (Field qualifier name) = name
own_name (Invoked name given filter reach) = name
own_name _ = codes "?column?"

-- an item's output name
abbrev pub output_name : Tree → Option (List ℕ) → List ℕ
output_name t (Some alias) = alias
output_name t None = own_name t

-- whether an item has this output name; `*` has the names of all columns
abbrev pub item_has_name : List Titled → List ℕ → ItemTree → Bool
item_has_name cs name AllColumns = list_any (has_name name) cs
item_has_name cs name (Computed t alias) = bytes_eq (output_name t alias) name

-- whether a key of the query's ORDER BY stands for an item: it is a number, or an output name alone
abbrev pub is_output : List Titled → List ItemTree → Tree → Bool
is_output cs items (Numeral n) = true
is_output cs items (Field None name) = list_any (item_has_name cs name) items
is_output cs items _ = false

-- some node of WHERE or HAVING is found
abbrev pub some_option : (Tree → Look) → Option Tree → Bool
some_option sees None = false
some_option sees (Some t) = some_node sees t

-- some node of the SELECT list
abbrev pub some_item : (Tree → Look) → List ItemTree → Bool
some_item sees [] = false
some_item sees (AllColumns ∷ items) = some_item sees items
some_item sees (Computed t alias ∷ items) = some_node sees t || some_item sees items

-- some node of the WINDOW entries, used or not
abbrev pub some_entry : (Tree → Look) → List EntryTree → Bool
some_entry sees [] = false
some_entry sees (e ∷ es) = some_reach sees (own_window e.window) || some_entry sees es

-- some node of the query's ORDER BY, keys that stand for items left out
abbrev pub some_sort : List Titled → List ItemTree → (Tree → Look) → List KeyTree → Bool
some_sort cs items sees [] = false
some_sort cs items sees (k ∷ ks) = (not (is_output cs items k.expression) && some_node sees k.expression) || some_sort cs items sees ks

-- some node of the SELECT list, WINDOW or ORDER BY
abbrev pub some_shown : List Titled → Clauses → (Tree → Look) → Bool
some_shown cs c sees = some_item sees c.items || (some_entry sees c.windows || some_sort cs c.items sees c.order)

-- some node of the query
abbrev pub some_anywhere : List Titled → Clauses → (Tree → Look) → Bool
some_anywhere cs c sees = some_shown cs c sees || (some_option sees c.condition || some_option sees c.having)
