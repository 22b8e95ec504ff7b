-- What is said of each node of an expression is so of what its nodes come to.
use Rattle.wquery.specs.Tree.{Tree, NullWord, Numeral, Quoted, Field, Invoked, Negated, Signed, Joined, Compared, NullTest, Within}
use Rattle.wquery.specs.Tree.{Among, Trees, NoTrees, MoreTrees, Links, NoLinks, Further, Given, Everything, These, Columns, Filter}
use Rattle.wquery.specs.Tree.{Unfiltered, FilteredBy, Reach, ItsGroup, ThatWindow, OwnWindow, Keys, NoKeys, MoreKeys}
use Rattle.wnodes.specs.Nodes.{Findings, found, found_below, found_trees, found_links, found_given, found_filter, found_reach, found_keys}

-- three ways to put nodes together, which stay related from none to some, and from the nodes below one to that one
pub record Relates {ℓ κ μ} {A : Type ℓ} {B : Type κ} {C : Type μ} (R : A → B → C → Type 0) (a : Findings A) (b : Findings B)
    (c : Findings C) : Type (ℓ ⊔ κ ⊔ μ) where
  pub none : R a.none b.none c.none
  pub both : (x x' : A) (y y' : B) (z z' : C) → R x y z → R x' y' z' → R (a.both x x') (b.both y y') (c.both z z')
  pub at : (t : Tree) → R (found_below a t) (found_below b t) (found_below c t) → R (found a t) (found b t) (found c t)

module _ {ℓ κ μ} {A : Type ℓ} {B : Type κ} {C : Type μ} (R : A → B → C → Type 0) (a : Findings A) (b : Findings B)
    (c : Findings C) (r : Relates R a b c) where
  mutual
    pub related_below : (t : Tree) → R (found_below a t) (found_below b t) (found_below c t)
    related_below NullWord = r.none
    related_below (Numeral n) = r.none
    related_below (Quoted text) = r.none
    related_below (Field qualifier name) = r.none
    related_below (Invoked name given filter reach) =
        r.both _ _ _ _ _ _ (related_given given) (r.both _ _ _ _ _ _ (related_filter filter) (related_reach reach))
    related_below (Negated t) = r.at t (related_below t)
    related_below (Signed minus t) = r.at t (related_below t)
    related_below (Joined kind t links) = r.both _ _ _ _ _ _ (r.at t (related_below t)) (related_links links)
    related_below (Compared comparison t u) = r.both _ _ _ _ _ _ (r.at t (related_below t)) (r.at u (related_below u))
    related_below (NullTest negated t) = r.at t (related_below t)
    related_below (Within negated t u v) =
        r.both _ _ _ _ _ _ (r.at t (related_below t)) (r.both _ _ _ _ _ _ (r.at u (related_below u)) (r.at v (related_below v)))
    related_below (Among negated t list) = r.both _ _ _ _ _ _ (r.at t (related_below t)) (related_trees list)

    pub related_trees : (ts : Trees) → R (found_trees a ts) (found_trees b ts) (found_trees c ts)
    related_trees NoTrees = r.none
    related_trees (MoreTrees t ts) = r.both _ _ _ _ _ _ (r.at t (related_below t)) (related_trees ts)

    pub related_links : (ls : Links) → R (found_links a ls) (found_links b ls) (found_links c ls)
    related_links NoLinks = r.none
    related_links (Further front operator t) = r.both _ _ _ _ _ _ (related_links front) (r.at t (related_below t))

    pub related_given : (g : Given) → R (found_given a g) (found_given b g) (found_given c g)
    related_given Everything = r.none
    related_given (These ts) = related_trees ts
    related_given (Columns ts) = related_trees ts

    pub related_filter : (f : Filter) → R (found_filter a f) (found_filter b f) (found_filter c f)
    related_filter Unfiltered = r.none
    related_filter (FilteredBy t) = r.at t (related_below t)

    pub related_reach : (w : Reach) → R (found_reach a w) (found_reach b w) (found_reach c w)
    related_reach ItsGroup = r.none
    related_reach (ThatWindow name) = r.none
    related_reach (OwnWindow copied partition order frame) = r.both _ _ _ _ _ _ (related_trees partition) (related_keys order)

    pub related_keys : (ks : Keys) → R (found_keys a ks) (found_keys b ks) (found_keys c ks)
    related_keys NoKeys = r.none
    related_keys (MoreKeys t descending nulls more) = r.both _ _ _ _ _ _ (r.at t (related_below t)) (related_keys more)

  pub related : (t : Tree) → R (found a t) (found b t) (found c t)
  related t = r.at t (related_below t)
