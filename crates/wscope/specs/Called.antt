-- Items of one output name, and columns of one name.
use Rattle.std.specs.Prelude.{ℕ, Bool, true, false, ◌&&◌, ◌==◌, not, List, [], ◌∷◌, Option, Some, None, if◌then◌else◌}
use Rattle.std.specs.List.{list_any}
use Rattle.std.specs.Str.{bytes_eq}
use Rattle.wquery.specs.Tree.{Tree, Field}
use Rattle.wquery.specs.QueryTree.{ItemTree, AllColumns, Computed}
use Rattle.wnodes.specs.Sameness.{is_same}
use Rattle.wscope.specs.Types.{Titled, place_named}
use Rattle.wscope.specs.Sources.{Shown, Placed, Spelled, ShownItem, written_out}

-- whether an expression is the column at a place
abbrev pub is_column_at : List Titled → ℕ → Tree → Bool
is_column_at cs place (Field qualifier name) = place_named cs name == place
is_column_at cs place _ = false

-- whether two items have one expression, a column being its place
abbrev pub same_shown : List Titled → Shown → Shown → Bool
same_shown cs (Placed p) (Placed q) = p == q
same_shown cs (Placed p) (Spelled t) = is_column_at cs p t
same_shown cs (Spelled t) (Placed p) = is_column_at cs p t
same_shown cs (Spelled t) (Spelled u) = is_same t u

abbrev pub is_called : List ℕ → ShownItem → Bool
is_called name i = bytes_eq i.name name

-- the first item of an output name
abbrev pub first_called : List ℕ → List ShownItem → Option Shown
first_called name [] = None
first_called name (i ∷ is) = if is_called name i then Some i.shown else first_called name is

-- an item of this name with another expression
abbrev pub is_unlike : List Titled → List ℕ → Option Shown → ShownItem → Bool
is_unlike cs name None i = false
is_unlike cs name (Some first) i = is_called name i && not (same_shown cs first i.shown)

-- whether two items have this output name, with two expressions
abbrev pub has_unlike : List Titled → List ItemTree → List ℕ → Bool
has_unlike cs items name = list_any (is_unlike cs name (first_called name (written_out cs items))) (written_out cs items)

-- `*`
abbrev pub is_star : ItemTree → Bool
is_star AllColumns = true
is_star (Computed t alias) = false

-- whether a column has this name
abbrev pub names : List ℕ → Tree → Bool
names name (Field qualifier other) = bytes_eq name other
names name _ = false
