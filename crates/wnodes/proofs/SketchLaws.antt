-- Equal expressions have one sketch.
use Rattle.std.proofs.Common.{◌≡◌, true, suc, ◌++◌, refl, sym, ap, ◌∙◌}
use Rattle.std.specs.Hash as fed
use Rattle.std.specs.Hash.DefaultHasher as hasher
use Rattle.std.specs.declared.hash.DefaultHasher.{DefaultHasher}
use Rattle.wquery.specs.Tree.{Tree, Invoked, Negated, Signed, Joined, Compared, NullTest, Within}
use Rattle.wquery.specs.Tree.{Among, Trees, NoTrees, MoreTrees, Links, NoLinks, Further, Given, Everything, These, Columns, Filter}
use Rattle.wquery.specs.Tree.{Unfiltered, FilteredBy, Reach, ItsGroup, ThatWindow, OwnWindow, Keys, NoKeys, MoreKeys}
use Rattle.wnodes.specs.Nodes.{count_trees, Findings, found, found_below, found_trees, found_links, found_given, found_filter}
use Rattle.wnodes.specs.Nodes.{found_reach, found_keys}
use Rattle.wnodes.specs.Sameness.{is_same, nulls_number, operator_number}
use Rattle.wnodes.specs.Heads.{bare, bare_filter, bare_given, bare_keys, bare_links, bare_reach, bare_trees}
use Rattle.wnodes.specs.Hashed.{kind_number, list_end, written, written_filter, written_given, written_keys, written_operators}
use Rattle.wnodes.specs.Hashed.{written_reach}
use Rattle.wnodes.specs.Sketch.{behind, sketching, sketch_of}
use Rattle.wnodes.specs.Plain.{plain, plain_trees, plain_links, plain_given, plain_filter, plain_reach, plain_keys, to}
use Rattle.wnodes.specs.Alike.{frame_kept}

-- what a node says beside those below it

count_kept : (ts : Trees) → count_trees (bare_trees (plain_trees ts)) ≡ count_trees (bare_trees ts)
count_kept NoTrees = refl
count_kept (MoreTrees t ts) = ap suc (count_kept ts)

operators_kept : (ls : Links) → written_operators (bare_links (plain_links ls)) ≡ written_operators (bare_links ls)
operators_kept NoLinks = refl
operators_kept (Further front operator t) = λ i. operators_kept front i ++ fed.u8 (operator_number operator)

given_kept : (g : Given) → written_given (bare_given (plain_given g)) ≡ written_given (bare_given g)
given_kept Everything = refl
given_kept (These ts) = λ i. fed.usize 1 ++ fed.usize (count_kept ts i)
given_kept (Columns ts) = λ i. fed.usize 2 ++ fed.usize (count_kept ts i)

filter_kept : (f : Filter) → written_filter (bare_filter (plain_filter f)) ≡ written_filter (bare_filter f)
filter_kept Unfiltered = refl
filter_kept (FilteredBy t) = refl

keys_kept : (ks : Keys) → written_keys (bare_keys (plain_keys ks)) ≡ written_keys (bare_keys ks)
keys_kept NoKeys = refl
keys_kept (MoreKeys t descending nulls more) = λ i. fed.bool descending ++ fed.u8 (nulls_number nulls) ++ keys_kept more i

reach_kept : (r : Reach) → written_reach (bare_reach (plain_reach r)) ≡ written_reach (bare_reach r)
reach_kept ItsGroup = refl
reach_kept (ThatWindow name) = refl
reach_kept (OwnWindow copied partition order frame) =
    λ i. fed.usize 2 ++ (fed.option fed.str copied ++ (fed.usize (count_kept partition i) ++ (keys_kept order i ++ frame_kept frame i)))

head_kept : (t : Tree) → written (bare (plain t)) ≡ written (bare t)
head_kept (Invoked name given filter reach) =
    λ i. fed.usize 4 ++ (fed.str name ++ (given_kept given i ++ (filter_kept filter i ++ reach_kept reach i)))
head_kept (Joined kind t links) = λ i. fed.usize 7 ++ (fed.usize (kind_number kind) ++ (operators_kept links i ++ list_end))
head_kept (Among negated t list) = λ i. fed.usize 11 ++ (fed.bool negated ++ fed.usize (count_kept list i))
head_kept _ = refl

-- what nodes come to, where one node comes to the same without what equality looks through
module _ {M : Type 0} (f : Findings M) (at : (t : Tree) (below : M) → f.at (plain t) below ≡ f.at t below) where
  kept_at : (t : Tree) → found_below f (plain t) ≡ found_below f t → found f (plain t) ≡ found f t
  kept_at t e = at t (found_below f (plain t)) ∙ ap (f.at t) e

  mutual
    kept : (t : Tree) → found_below f (plain t) ≡ found_below f t
    kept (Invoked name given filter reach) = λ i. f.both (kept_given given i) (f.both (kept_filter filter i) (kept_reach reach i))
    kept (Negated t) = kept_at t (kept t)
    kept (Signed minus t) = kept_at t (kept t)
    kept (Joined kind t links) = λ i. f.both (kept_at t (kept t) i) (kept_links links i)
    kept (Compared comparison l r) = λ i. f.both (kept_at l (kept l) i) (kept_at r (kept r) i)
    kept (NullTest negated t) = kept_at t (kept t)
    kept (Within negated t l h) = λ i. f.both (kept_at t (kept t) i) (f.both (kept_at l (kept l) i) (kept_at h (kept h) i))
    kept (Among negated t list) = λ i. f.both (kept_at t (kept t) i) (kept_trees list i)
    kept _ = refl

    kept_trees : (ts : Trees) → found_trees f (plain_trees ts) ≡ found_trees f ts
    kept_trees NoTrees = refl
    kept_trees (MoreTrees t ts) = λ i. f.both (kept_at t (kept t) i) (kept_trees ts i)

    kept_links : (ls : Links) → found_links f (plain_links ls) ≡ found_links f ls
    kept_links NoLinks = refl
    kept_links (Further front operator t) = λ i. f.both (kept_links front i) (kept_at t (kept t) i)

    kept_given : (g : Given) → found_given f (plain_given g) ≡ found_given f g
    kept_given Everything = refl
    kept_given (These ts) = kept_trees ts
    kept_given (Columns ts) = kept_trees ts

    kept_filter : (g : Filter) → found_filter f (plain_filter g) ≡ found_filter f g
    kept_filter Unfiltered = refl
    kept_filter (FilteredBy t) = kept_at t (kept t)

    kept_reach : (r : Reach) → found_reach f (plain_reach r) ≡ found_reach f r
    kept_reach (OwnWindow copied partition order frame) = λ i. f.both (kept_trees partition i) (kept_keys order i)
    kept_reach _ = refl

    kept_keys : (ks : Keys) → found_keys f (plain_keys ks) ≡ found_keys f ks
    kept_keys NoKeys = refl
    kept_keys (MoreKeys t descending nulls more) = λ i. f.both (kept_at t (kept t) i) (kept_keys more i)

sketch_at : (t : Tree) (below : DefaultHasher → DefaultHasher) → sketching.at (plain t) below ≡ sketching.at t below
sketch_at t below = λ i s. below (behind (head_kept t i) s)

sketch_kept : (t : Tree) → found sketching (plain t) ≡ found sketching t
sketch_kept t = kept_at sketching sketch_at t (kept sketching sketch_at t)

pub same_sketch : (t u : Tree) → is_same t u ≡ true → sketch_of t ≡ sketch_of u
same_sketch t u h =
    let one : found sketching t ≡ found sketching u = sym (sketch_kept t) ∙ ap (found sketching) (to t u h) ∙ sketch_kept u in
    ap (λ (f : DefaultHasher → DefaultHasher). hasher.finish (f hasher.initial)) one
