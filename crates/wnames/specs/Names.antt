-- The rules on names: Q10, Q11 and Q12. (SQL, `<table reference>` and `<column reference>`; PostgreSQL, SELECT, ORDER BY
-- Clause.)
use Rattle.std.specs.Prelude.{ℕ, suc, Bool, false, ◌||◌, not, nat_lt, List, [], ◌∷◌, Option, Some, None, if◌then◌else◌}
use Rattle.std.specs.List.{list_any}
use Rattle.std.specs.Str.{bytes_eq}
use Rattle.wquery.specs.Tree.{Tree, Field, KeyTree}
use Rattle.wquery.specs.GroupElements.{all_columns}
use Rattle.wquery.specs.QueryTree.{Clauses, SourceTree, FromTable, FromQuery}
use Rattle.wscope.specs.Types.{Titled}
use Rattle.wscope.specs.Scope.{some_anywhere, has_name}
use Rattle.wscope.specs.Called.{first_called, is_unlike}
use Rattle.wscope.specs.Sources.{ShownItem, written_out}
use Rattle.wscope.specs.Finding.{finds}

-- FROM names another table than the declared one
abbrev pub names_other_table : List ℕ → SourceTree → Bool
names_other_table table (FromTable name alias) = not (bytes_eq name table)
names_other_table table (FromQuery query alias) = false

abbrev pub is_other : List ℕ → Option (List ℕ) → Bool
is_other alias None = false
is_other alias (Some q) = not (bytes_eq q alias)

-- a column behind another name than the source's alias
abbrev pub is_misqualified : List ℕ → Tree → Bool
is_misqualified alias (Field qualifier name) = is_other alias qualifier
is_misqualified alias _ = false

-- Q10: FROM names another table than the declared one, or a qualifier is not the source's alias
abbrev pub breaks_tables : List ℕ → List ℕ → List Titled → Clauses → SourceTree → Bool
breaks_tables table alias cs c source =
    names_other_table table source || (some_anywhere cs c (finds (is_misqualified alias))
    || list_any (is_misqualified alias) (all_columns c.grouping))

-- a column that the source lacks
abbrev pub is_missing : List Titled → Tree → Bool
is_missing cs (Field qualifier name) = not (list_any (has_name name) cs)
is_missing cs _ = false

-- Q11: a column that the source lacks
abbrev pub breaks_columns : List Titled → Clauses → Bool
breaks_columns cs c = some_anywhere cs c (finds (is_missing cs)) || list_any (is_missing cs) (all_columns c.grouping)

-- how many columns have a name
abbrev pub count_named : List ℕ → List Titled → ℕ
count_named name [] = 0
count_named name (c ∷ cs) = if has_name name c then suc (count_named name cs) else count_named name cs

-- a column whose name two columns have
abbrev pub is_ambiguous : List Titled → Tree → Bool
is_ambiguous cs (Field qualifier name) = nat_lt 1 (count_named name cs)
is_ambiguous cs _ = false

-- a bare name that two items have as output name, with two expressions
abbrev pub is_ambiguous_key : List Titled → List ShownItem → Tree → Bool
is_ambiguous_key cs items (Field None name) = list_any (is_unlike cs name (first_called name items)) items
is_ambiguous_key cs items _ = false

-- Q12: a column is named whose name two columns have; a bare name in the query's ORDER BY that two items have as output
-- name, unless their expressions are equal
abbrev pub breaks_ambiguity : List Titled → Clauses → Bool
breaks_ambiguity cs c =
    some_anywhere cs c (finds (is_ambiguous cs)) || (list_any (is_ambiguous cs) (all_columns c.grouping)
    || list_any (λ (k : KeyTree). is_ambiguous_key cs (written_out cs c.items) k.expression) c.order)
