-- The rule on places in the query's ORDER BY: Q26. (PostgreSQL, SELECT, ORDER BY Clause.)
use Rattle.std.specs.Prelude.{ℕ, suc, Bool, true, false, ◌||◌, ◌+◌, nat_lt, List, [], ◌∷◌, length}
use Rattle.std.specs.List.{list_any}
use Rattle.wquery.specs.Tree.{Tree, NullWord, Numeral, Quoted, Signed, KeyTree}
use Rattle.wquery.specs.QueryTree.{Clauses, ItemTree, AllColumns, Computed}
use Rattle.wscope.specs.Types.{Titled}

-- how many items there are when `*` is written out
abbrev pub count_items : List Titled → List ItemTree → ℕ
count_items cs [] = 0
count_items cs (AllColumns ∷ items) = length cs + count_items cs items
count_items cs (Computed t alias ∷ items) = suc (count_items cs items)

-- a literal behind any number of signs
abbrev pub is_behind_signs : Tree → Bool
is_behind_signs (Signed minus t) = is_behind_signs t
is_behind_signs (Numeral n) = true
is_behind_signs (Quoted text) = true
is_behind_signs NullWord = true
is_behind_signs _ = false

-- a number that is no place from 1 to this number, another literal alone, or a literal with signs before it
abbrev pub is_bad_place : ℕ → Tree → Bool
is_bad_place count (Numeral n) = nat_lt n 1 || nat_lt count n
is_bad_place count (Quoted text) = true
is_bad_place count NullWord = true
is_bad_place count (Signed minus t) = is_behind_signs t
is_bad_place count _ = false

-- Q26: in the query's ORDER BY, a number that is no place from 1 to the number of items, or another literal
abbrev pub breaks_places : List Titled → Clauses → Bool
breaks_places cs c = list_any (λ (k : KeyTree). is_bad_place (count_items cs c.items) k.expression) c.order
