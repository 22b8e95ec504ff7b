-- The nodes of an expression, each with those below it, in the order of the text. (SQL, `<value expression>` and what "simply
-- contains" means there.)
use Rattle.std.specs.Prelude.{ℕ, suc}
use Rattle.wquery.specs.Tree.{Tree, NullWord, Numeral, Quoted, Field, Invoked, Negated, Signed, Joined, Compared, NullTest, Within}
use Rattle.wquery.specs.Tree.{Among, Trees, NoTrees, MoreTrees, Links, NoLinks, Further, Given, Everything, These, Columns, Filter}
use Rattle.wquery.specs.Tree.{Unfiltered, FilteredBy, Reach, ItsGroup, ThatWindow, OwnWindow, Keys, NoKeys, MoreKeys}

-- what nodes come to: none of them, some and then those behind them, and one with what those below it come to
pub record Findings {ℓ} (M : Type ℓ) : Type ℓ where
  pub none : M
  pub both : M → M → M
  pub at : Tree → M → M

-- The one enumeration of nodes: what those below a node come to
abbrev mutual
  pub found_below {ℓ} : {M : Type ℓ} → Findings M → Tree → M
  found_below f NullWord = f.none
  found_below f (Numeral n) = f.none
  found_below f (Quoted text) = f.none
  found_below f (Field qualifier name) = f.none
  found_below f (Invoked name given filter reach) = f.both (found_given f given) (f.both (found_filter f filter) (found_reach f reach))
  found_below f (Negated t) = f.at t (found_below f t)
  found_below f (Signed minus t) = f.at t (found_below f t)
  found_below f (Joined kind t links) = f.both (f.at t (found_below f t)) (found_links f links)
  found_below f (Compared comparison l r) = f.both (f.at l (found_below f l)) (f.at r (found_below f r))
  found_below f (NullTest negated t) = f.at t (found_below f t)
  found_below f (Within negated t l h) = f.both (f.at t (found_below f t)) (f.both (f.at l (found_below f l)) (f.at h (found_below f h)))
  found_below f (Among negated t list) = f.both (f.at t (found_below f t)) (found_trees f list)

  pub found_trees {ℓ} : {M : Type ℓ} → Findings M → Trees → M
  found_trees f NoTrees = f.none
  found_trees f (MoreTrees t ts) = f.both (f.at t (found_below f t)) (found_trees f ts)

  pub found_links {ℓ} : {M : Type ℓ} → Findings M → Links → M
  found_links f NoLinks = f.none
  found_links f (Further front operator t) = f.both (found_links f front) (f.at t (found_below f t))

  pub found_given {ℓ} : {M : Type ℓ} → Findings M → Given → M
  found_given f Everything = f.none
  found_given f (These ts) = found_trees f ts
  found_given f (Columns ts) = found_trees f ts

  pub found_filter {ℓ} : {M : Type ℓ} → Findings M → Filter → M
  found_filter f Unfiltered = f.none
  found_filter f (FilteredBy t) = f.at t (found_below f t)

  pub found_reach {ℓ} : {M : Type ℓ} → Findings M → Reach → M
  found_reach f ItsGroup = f.none
  found_reach f (ThatWindow name) = f.none
  found_reach f (OwnWindow copied partition order frame) = f.both (found_trees f partition) (found_keys f order)

  pub found_keys {ℓ} : {M : Type ℓ} → Findings M → Keys → M
  found_keys f NoKeys = f.none
  found_keys f (MoreKeys t descending nulls more) = f.both (f.at t (found_below f t)) (found_keys f more)

-- what an expression and the nodes below it come to
abbrev pub found {ℓ} : {M : Type ℓ} → Findings M → Tree → M
found f t = f.at t (found_below f t)

-- how many expressions there are
abbrev pub count_trees : Trees → ℕ
count_trees NoTrees = 0
count_trees (MoreTrees t ts) = suc (count_trees ts)

-- how many keys there are
abbrev pub count_keys : Keys → ℕ
count_keys NoKeys = 0
count_keys (MoreKeys t descending nulls more) = suc (count_keys more)
