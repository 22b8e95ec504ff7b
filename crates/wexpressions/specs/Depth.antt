-- How deep a walk over an expression goes: a chain counts once, however many operands it has.
use Rattle.std.specs.Prelude.{ℕ, suc, max}
use Rattle.wquery.specs.Tree.{Tree, Trees, Links, Given, Filter, Reach, Keys, NullWord, Numeral, Quoted, Field, Invoked, Negated}
use Rattle.wquery.specs.Tree.{Signed, Joined, Compared, NullTest, Within, Among, NoTrees, MoreTrees, NoLinks, Further, Everything}
use Rattle.wquery.specs.Tree.{These, Columns, Unfiltered, FilteredBy, ItsGroup, ThatWindow, OwnWindow, NoKeys, MoreKeys}

-- the most that a level of nesting adds to a height
abbrev pub level_height : ℕ
level_height = 8

abbrev mutual
  -- the most expressions that lie one in another, the outermost and the innermost counted
  pub height : Tree → ℕ
  height NullWord = 1
  height (Numeral n) = 1
  height (Quoted text) = 1
  height (Field qualifier name) = 1
  height (Invoked name given filter reach) = suc (max (given_height given) (max (filter_height filter) (reach_height reach)))
  height (Negated e) = suc (height e)
  height (Signed minus e) = suc (height e)
  height (Joined kind first links) = suc (max (height first) (links_height links))
  height (Compared comparison l r) = suc (max (height l) (height r))
  height (NullTest negated e) = suc (height e)
  height (Within negated e low high) = suc (max (height e) (max (height low) (height high)))
  height (Among negated e list) = suc (max (height e) (trees_height list))

  pub trees_height : Trees → ℕ
  trees_height NoTrees = 0
  trees_height (MoreTrees t ts) = max (height t) (trees_height ts)

  pub links_height : Links → ℕ
  links_height NoLinks = 0
  links_height (Further links operator t) = max (links_height links) (height t)

  pub given_height : Given → ℕ
  given_height Everything = 0
  given_height (These ts) = trees_height ts
  given_height (Columns ts) = trees_height ts

  pub filter_height : Filter → ℕ
  filter_height Unfiltered = 0
  filter_height (FilteredBy t) = height t

  pub reach_height : Reach → ℕ
  reach_height ItsGroup = 0
  reach_height (ThatWindow name) = 0
  reach_height (OwnWindow copied parts keys frame) = max (trees_height parts) (keys_height keys)

  pub keys_height : Keys → ℕ
  keys_height NoKeys = 0
  keys_height (MoreKeys t descending nulls keys) = max (height t) (keys_height keys)
