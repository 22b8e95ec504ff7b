-- A node without the nodes below it: NULL stands where each of them stood. What is left is what the node says itself.
use Rattle.std.specs.Prelude.{ℕ, Bool, true, false, ◌&&◌, None, List, [], ◌∷◌, zero, suc, map, nat_eq}
use Rattle.std.specs.Rc.{rc_str_bytes}
use Rattle.wquery.specs.declared.expression.Key.{Key}
use Rattle.wquery.specs.declared.expression.Link.{Link}
use Rattle.wquery.specs.Tree.{Tree, NullWord, Numeral, Quoted, Field, Invoked, Negated, Signed, Joined, Compared, NullTest, Within}
use Rattle.wquery.specs.Tree.{Among, Trees, NoTrees, MoreTrees, Links, NoLinks, Further, Given, Everything, These, Columns, Filter}
use Rattle.wquery.specs.Tree.{Unfiltered, FilteredBy, Reach, ItsGroup, ThatWindow, OwnWindow, Keys, NoKeys, MoreKeys}
use Rattle.wquery.specs.Tree.{Branch, KeyTree, keys, linked, name_bytes, view_keys, view_link}
use Rattle.wnodes.specs.Sameness.{is_same, nulls_number, operator_number, same_bool}
use Rattle.wnodes.specs.declared.head.Head.{Head}
use Rattle.wnodes.specs.declared.head.Head.TheVariants as heads
use Rattle.wnodes.specs.declared.head.GivenHead.{GivenHead}
use Rattle.wnodes.specs.declared.head.GivenHead.TheVariants as given
use Rattle.wnodes.specs.declared.head.OverHead.{OverHead}
use Rattle.wnodes.specs.declared.head.OverHead.TheVariants as over

abbrev pub bare_trees : Trees → Trees
bare_trees NoTrees = NoTrees
bare_trees (MoreTrees t ts) = MoreTrees NullWord (bare_trees ts)

abbrev pub bare_links : Links → Links
bare_links NoLinks = NoLinks
bare_links (Further front operator t) = Further (bare_links front) operator NullWord

abbrev pub bare_given : Given → Given
bare_given Everything = Everything
bare_given (These ts) = These (bare_trees ts)
bare_given (Columns ts) = Columns (bare_trees ts)

abbrev pub bare_filter : Filter → Filter
bare_filter Unfiltered = Unfiltered
bare_filter (FilteredBy t) = FilteredBy NullWord

abbrev pub bare_keys : Keys → Keys
bare_keys NoKeys = NoKeys
bare_keys (MoreKeys t descending nulls more) = MoreKeys NullWord descending nulls (bare_keys more)

abbrev pub bare_reach : Reach → Reach
bare_reach ItsGroup = ItsGroup
bare_reach (ThatWindow name) = ThatWindow name
bare_reach (OwnWindow copied partition order frame) = OwnWindow copied (bare_trees partition) (bare_keys order) frame

-- a column is left by its name alone
abbrev pub bare : Tree → Tree
bare NullWord = NullWord
bare (Numeral n) = Numeral n
bare (Quoted text) = Quoted text
bare (Field qualifier name) = Field None name
bare (Invoked name given filter reach) = Invoked name (bare_given given) (bare_filter filter) (bare_reach reach)
bare (Negated t) = Negated NullWord
bare (Signed minus t) = Signed minus NullWord
bare (Joined kind t links) = Joined kind NullWord (bare_links links)
bare (Compared comparison l r) = Compared comparison NullWord NullWord
bare (NullTest negated t) = NullTest negated NullWord
bare (Within negated t l h) = Within negated NullWord NullWord NullWord
bare (Among negated t list) = Among negated NullWord (bare_trees list)

-- so many nodes that are left out
abbrev pub left_out : ℕ → Trees
left_out zero = NoTrees
left_out (suc n) = MoreTrees NullWord (left_out n)

-- the links of a list in memory, and its keys, each without the expression below it
abbrev pub said_links : List Link → Links
said_links links = bare_links (linked NoLinks (map view_link links))

abbrev pub said_keys : List Key → Keys
said_keys order = bare_keys (keys (view_keys order))

-- what a head in memory says
abbrev pub said_given : GivenHead → Given
said_given given.Star = Everything
said_given (given.Listed n) = These (left_out n)
said_given (given.Columns n) = Columns (left_out n)

abbrev pub said_over : OverHead → Reach
said_over over.Group = ItsGroup
said_over (over.Named name) = ThatWindow (rc_str_bytes name.now)
said_over (over.Windowed copied partition order frame) =
    OwnWindow (name_bytes copied.now) (left_out partition) (said_keys order.keys.now) frame.frame.now

abbrev pub said_filter : Bool → Filter
said_filter false = Unfiltered
said_filter true = FilteredBy NullWord

abbrev pub said : Head → Tree
said heads.Null = NullWord
said (heads.Number n) = Numeral n
said (heads.Text text) = Quoted (rc_str_bytes text.now)
said (heads.Column name) = Field None (rc_str_bytes name.now)
said (heads.Call name given filtered over) = Invoked (rc_str_bytes name.now) (said_given given) (said_filter filtered) (said_over over)
said heads.Not = Negated NullWord
said (heads.Sign minus) = Signed minus NullWord
said (heads.Chain kind operators) = Joined kind NullWord (said_links operators.links.now)
said (heads.Compare comparison) = Compared comparison NullWord NullWord
said (heads.IsNull negated) = NullTest negated NullWord
said (heads.Between negated) = Within negated NullWord NullWord NullWord
said (heads.In negated count) = Among negated NullWord (left_out count)

-- nodes that stand side by side are the same one by one
abbrev pub all_same : List Tree → List Tree → Bool
all_same [] [] = true
all_same (t ∷ ts) (u ∷ us) = is_same t u && all_same ts us
all_same _ _ = false

-- an operator, and how a key sorts, as equality sees them
abbrev pub is_same_mark : Branch → Branch → Bool
is_same_mark a b = nat_eq (operator_number a.operator) (operator_number b.operator)

abbrev pub is_same_sort : KeyTree → KeyTree → Bool
is_same_sort a b = same_bool a.descending b.descending && nat_eq (nulls_number a.nulls) (nulls_number b.nulls)
