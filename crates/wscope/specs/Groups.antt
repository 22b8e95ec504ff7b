-- The columns of GROUP BY in memory, and their names in a set.
use Rattle.std.specs.Prelude.{◌≡◌, ℕ, ◌||◌, List, map}
use Rattle.std.specs.Borrow.{Bor}
use Rattle.std.specs.BTreeSet.{BTreeSet, contains_text}
use Rattle.std.specs.List.{list_any}
use Rattle.std.specs.declared.alloc.Global.{Global}
use Rattle.std.specs.declared.string.String.{String}
use Rattle.wquery.specs.declared.expression.Column.{Column}
use Rattle.wquery.specs.Tree.{Tree, view_column}
use Rattle.wscope.specs.Called.{names}

abbrev pub lent_columns : List (Bor Column) → List Tree
lent_columns cs = map (λ c. view_column c.now) cs

-- the names of these columns have come to those of a set
abbrev pub AddsNames : BTreeSet (String Global) → BTreeSet (String Global) → List Tree → Type 0
AddsNames old new columns = (q : List ℕ) → contains_text new q ≡ (contains_text old q || list_any (names q) columns)
