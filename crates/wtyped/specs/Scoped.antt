-- What the words of a query denote (<column reference>, <identifier chain>, <window function>, <filter clause>, <window
-- clause>, <sort specification>): each column one of its source, each function and window one that is there, with nothing
-- beside it that resolving would pass over.
use Rattle.std.specs.Prelude.{◌≡◌, ℕ, suc, Bool, true, false, not, ◌&&◌, nat_lt, nat_le, List, []}
use Rattle.std.specs.Prelude.{◌∷◌, ◌++◌, length, Option, Some, None, is_some, if◌then◌else◌}
use Rattle.std.specs.List.{list_any}
use Rattle.std.specs.Str.{bytes_eq}
use Rattle.wquery.specs.Tree.{Tree, NullWord, Numeral, Quoted, Field, Invoked, Signed, Trees, NoTrees, MoreTrees}
use Rattle.wquery.specs.Tree.{Given, Everything, These, Columns, Filter, Unfiltered, FilteredBy, Reach, ItsGroup}
use Rattle.wquery.specs.Tree.{ThatWindow, OwnWindow, Keys, NoKeys, MoreKeys, KeyTree, own_window}
use Rattle.wquery.specs.GroupElements.{all_columns}
use Rattle.wquery.specs.QueryTree.{Clauses, QueryTree, Selected, SourceTree, FromTable, FromQuery}
use Rattle.wquery.specs.QueryTree.{ItemTree, AllColumns, Computed, EntryTree}
use Rattle.wsegment.specs.Declaration.{Declaration}
use Rattle.wscope.specs.declared.function.Function.{Function}
use Rattle.wscope.specs.declared.function.Function.TheVariants as functions
use Rattle.wnodes.specs.Nodes.{count_trees, Findings, found, found_reach}
use Rattle.wscope.specs.Functions.{function_of}
use Rattle.wscope.specs.Sources.{ShownItem, origin_of, written_out}
use Rattle.wscope.specs.Types.{Origin, Titled, place_named}
use Rattle.wscope.specs.Windows.{NamedWindow, Expanded, expand_all, expand_tree, window_named}
use Rattle.wplan.specs.Formula.{Formula}
use Rattle.wbinding.specs.Resolving.{Layout}
use Rattle.wresolve.specs.Selecting.{key_shown, shown_formula}
use Rattle.wrules.specs.Rules.{first_broken_rule}

-- what is said of each expression that stands in another
abbrev pub holding : (Tree → Type 0) → Findings (Type 0)
holding P = record { none = Unit {0}; both = λ X Y. X × Y; at = λ t X. P t × X }

-- of each that stands in a window
abbrev pub InReach : (Tree → Type 0) → Reach → Type 0
InReach P reach = found_reach (holding P) reach

-- of an expression and of each that stands in it
abbrev pub Throughout : (Tree → Type 0) → Tree → Type 0
Throughout P t = found (holding P) t

-- columns

-- the places, from this one on, of the columns that have a name
abbrev pub places_of : ℕ → List Titled → List ℕ → List ℕ
places_of place [] name = []
places_of place (c ∷ cs) name = if bytes_eq c.name name then place ∷ places_of (suc place) cs name else places_of (suc place) cs name

abbrev pub is_alias : List ℕ → Option (List ℕ) → Bool
is_alias alias None = true
is_alias alias (Some q) = bytes_eq q alias

-- nothing or the source's alias stands before the dot, and the column that it resolves to is the only one of its name
abbrev pub DenotesColumn : Origin → Option (List ℕ) → List ℕ → Type 0
DenotesColumn o qualifier name = (is_alias o.alias qualifier ≡ true) × (places_of 0 o.columns name ≡ place_named o.columns name ∷ [])

-- calls

abbrev pub is_literal : Tree → Bool
is_literal NullWord = true
is_literal (Numeral n) = true
is_literal (Quoted text) = true
is_literal (Signed true (Numeral n)) = true
is_literal _ = false

-- the forms of the functions. A number of tiles and a place in a frame are from 1 on
abbrev pub is_form : Function → Given → Bool
is_form functions.RowNumber (These NoTrees) = true
is_form functions.Rank (These NoTrees) = true
is_form functions.DenseRank (These NoTrees) = true
is_form functions.Ntile (These (MoreTrees (Numeral n) NoTrees)) = nat_lt 0 n
is_form functions.Lag (These (MoreTrees v NoTrees)) = true
is_form functions.Lag (These (MoreTrees v (MoreTrees (Numeral n) NoTrees))) = true
is_form functions.Lag (These (MoreTrees v (MoreTrees (Numeral n) (MoreTrees d NoTrees)))) = is_literal d
is_form functions.Lead (These (MoreTrees v NoTrees)) = true
is_form functions.Lead (These (MoreTrees v (MoreTrees (Numeral n) NoTrees))) = true
is_form functions.Lead (These (MoreTrees v (MoreTrees (Numeral n) (MoreTrees d NoTrees)))) = is_literal d
is_form functions.FirstValue (These (MoreTrees v NoTrees)) = true
is_form functions.LastValue (These (MoreTrees v NoTrees)) = true
is_form functions.NthValue (These (MoreTrees v (MoreTrees (Numeral n) NoTrees))) = nat_lt 0 n
is_form functions.Count Everything = true
is_form functions.Count (These (MoreTrees v NoTrees)) = true
is_form functions.Sum (These (MoreTrees v NoTrees)) = true
is_form functions.Min (These (MoreTrees v NoTrees)) = true
is_form functions.Max (These (MoreTrees v NoTrees)) = true
is_form _ _ = false

-- only an aggregate has FILTER
abbrev pub is_filtered : Function → Filter → Bool
is_filtered f Unfiltered = true
is_filtered functions.Count (FilteredBy t) = true
is_filtered functions.Sum (FilteredBy t) = true
is_filtered functions.Min (FilteredBy t) = true
is_filtered functions.Max (FilteredBy t) = true
is_filtered f (FilteredBy t) = false

-- a function that is there, in one of its forms; GROUPING is none, and has at most 31 columns
abbrev pub is_known_call : Option Function → Given → Filter → Bool
is_known_call f (Columns ts) filter = nat_le (count_trees ts) 31
is_known_call None given filter = false
is_known_call (Some f) given filter = is_form f given && is_filtered f filter

-- windows

-- a copy has no PARTITION BY of its own, has ORDER BY only where the copied window has none, and that has no frame
abbrev pub are_none : Trees → Bool
are_none NoTrees = true
are_none (MoreTrees t ts) = false

abbrev pub is_none : Keys → Bool
is_none NoKeys = true
is_none (MoreKeys t descending nulls more) = false

abbrev pub goes_with : Expanded → Trees → Keys → Bool
goes_with w partition order = are_none partition && (not (is_some w.frame) && (if is_none order then true else is_none w.order))

abbrev pub copies : Option Expanded → Trees → Keys → Bool
copies None partition order = false
copies (Some w) partition order = goes_with w partition order

abbrev pub is_known_window : List NamedWindow → Reach → Bool
is_known_window ws ItsGroup = true
is_known_window ws (ThatWindow name) = is_some (window_named ws name)
is_known_window ws (OwnWindow None partition order frame) = true
is_known_window ws (OwnWindow (Some name) partition order frame) = copies (window_named ws name) partition order

-- an expression by itself

abbrev pub Denotes : Origin → List NamedWindow → Tree → Type 0
Denotes o ws (Field qualifier name) = DenotesColumn o qualifier name
Denotes o ws (Invoked name given filter reach) = (is_known_call (function_of name) given filter ≡ true) × (is_known_window ws reach ≡ true)
Denotes o ws _ = Unit {0}

-- a column of GROUP BY
abbrev pub DenotesGroup : Origin → Tree → Type 0
DenotesGroup o (Field qualifier name) = DenotesColumn o qualifier name
DenotesGroup o _ = Unit {0}

-- clauses

abbrev pub InItems : (Tree → Type 0) → List ItemTree → Type 0
InItems P [] = Unit {0}
InItems P (AllColumns ∷ items) = InItems P items
InItems P (Computed t alias ∷ items) = Throughout P t × InItems P items

abbrev pub InOption : (Tree → Type 0) → Option Tree → Type 0
InOption P None = Unit {0}
InOption P (Some t) = Throughout P t

abbrev pub InEntries : (Tree → Type 0) → List EntryTree → Type 0
InEntries P [] = Unit {0}
InEntries P (e ∷ es) = InReach P (own_window e.window) × InEntries P es

abbrev pub InList : (Tree → Type 0) → List Tree → Type 0
InList P [] = Unit {0}
InList P (t ∷ ts) = P t × InList P ts

-- WINDOW entries, where these stand before: each has a name that none before it has, and copies one before it
abbrev pub AreEntries : List NamedWindow → List EntryTree → Type 0
AreEntries earlier [] = Unit {0}
AreEntries earlier (e ∷ es) =
    (is_some (window_named earlier e.name) ≡ false) × (is_known_window earlier (own_window e.window) ≡ true)
    × AreEntries (earlier ++ (record { name = e.name; window = expand_tree earlier e.window } ∷ [])) es

-- keys of ORDER BY

-- a literal behind any number of signs
abbrev pub is_constant : Tree → Bool
is_constant NullWord = true
is_constant (Numeral n) = true
is_constant (Quoted text) = true
is_constant (Signed minus t) = is_constant t
is_constant _ = false

abbrev pub is_called : List ℕ → ShownItem → Bool
is_called name i = bytes_eq i.name name

-- the items of a name come to one value
abbrev pub AreOneValue : Layout → List ℕ → Formula → List ShownItem → Type 0
AreOneValue l name f [] = Unit {0}
AreOneValue l name f (i ∷ is) = (is_called name i ≡ true → shown_formula l i.shown ≡ f) × AreOneValue l name f is

abbrev pub row_with : Origin → Option (List ℕ) → List Tree → Layout
row_with o grouping calls = record { columns = o.columns; grouping = grouping; calls = calls }

-- a bare name: on every row of the source or its groups, the value of all items of the name; else a column
abbrev pub DenotesName : Origin → List ShownItem → List ℕ → Bool → Type 0
DenotesName o items name true =
    (grouping : Option (List ℕ)) (calls : List Tree)
    → AreOneValue (row_with o grouping calls) name (shown_formula (row_with o grouping calls) (key_shown items (Field None name))) items
DenotesName o items name false = DenotesColumn o None name

-- the place of an item, counted from 1, a bare name, or an expression that is no literal
abbrev pub DenotesKey : Origin → List NamedWindow → List ShownItem → Tree → Type 0
DenotesKey o ws items (Numeral n) = (nat_lt 0 n && nat_le n (length items)) ≡ true
DenotesKey o ws items (Field None name) = DenotesName o items name (list_any (is_called name) items)
DenotesKey o ws items t = (is_constant t ≡ false) × Throughout (Denotes o ws) t

abbrev pub DenotesOrder : Origin → List NamedWindow → List ShownItem → List KeyTree → Type 0
DenotesOrder o ws items [] = Unit {0}
DenotesOrder o ws items (k ∷ ks) = DenotesKey o ws items k.expression × DenotesOrder o ws items ks

-- what a SELECT says over a source with these columns
pub record DenotesClauses (o : Origin) (ws : List NamedWindow) (c : Clauses) : Type 0 where
  pub items : InItems (Denotes o ws) c.items
  pub condition : InOption (Denotes o ws) c.condition
  pub grouping : InList (DenotesGroup o) (all_columns c.grouping)
  pub having : InOption (Denotes o ws) c.having
  pub windows : InEntries (Denotes o ws) c.windows
  pub entries : AreEntries [] c.windows
  pub order : DenotesOrder o ws (written_out o.columns c.items) c.order

abbrev mutual
  -- a whole query; FROM names the declared table
  pub DenotesQuery : Declaration → QueryTree → Type 0
  DenotesQuery d (Selected c s) = DenotesClauses (origin_of d s) (expand_all [] c.windows) c × DenotesSource d s

  pub DenotesSource : Declaration → SourceTree → Type 0
  DenotesSource d (FromTable name alias) = bytes_eq name d.table ≡ true
  DenotesSource d (FromQuery q alias) = DenotesQuery d q

abbrev pub AcceptedIsScoped : Type 0
AcceptedIsScoped = (d : Declaration) (q : QueryTree) → first_broken_rule d q ≡ None → DenotesQuery d q
