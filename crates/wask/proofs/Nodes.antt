-- Nodes of a query among which a rule finds none to refuse.
use Rattle.std.proofs.Common.{◌≡◌, Bool, true, false, not, ◌&&◌, ◌||◌, List, [], ◌∷◌, ◌++◌, refl, ◌∙◌, ap₂, true≢false}
use Rattle.std.specs.Prelude.{if◌then◌else◌}
use Rattle.std.specs.List.{list_all, list_any}
use Rattle.std.proofs.lemmas.Bool.{or_parts, and_parts}
use Rattle.std.proofs.lemmas.List.Folds.{list_all-append}
use Rattle.wquery.specs.Tree.{Tree, NullWord, Numeral, Quoted, Field, Invoked, Negated, Signed, Joined, Compared, NullTest, Within}
use Rattle.wquery.specs.Tree.{Among, Trees, NoTrees, MoreTrees, Links, NoLinks, Further, Given, Everything, These, Columns, Filter}
use Rattle.wquery.specs.Tree.{Unfiltered, FilteredBy, Reach, ItsGroup, ThatWindow, OwnWindow, Keys, NoKeys, MoreKeys, KeyTree}
use Rattle.wquery.specs.QueryTree.{Clauses, ItemTree, AllColumns, Computed}
use Rattle.wnodes.specs.Sameness.{is_same}
use Rattle.wscope.specs.declared.look.Look.TheVariants.{Found, Below}
use Rattle.wscope.specs.Finding.{finds}
use Rattle.wscope.specs.Scope.{is_output, some_anywhere, some_entry, some_item, some_option, some_shown, some_sort}
use Rattle.wscope.specs.Seeking.{found_or, some_below, some_tree, some_link, some_given, some_filter, some_reach, some_key}
use Rattle.wscope.specs.Types.{Titled}
use Rattle.wdistinct.specs.declared.distinct_calls.CallKind.TheVariants.{Windowed}
use Rattle.wdistinct.specs.Calls.{is_call_of, node_or, nodes_below, nodes_given, nodes_in, nodes_in_filter, nodes_in_items, nodes_in_keys}
use Rattle.wdistinct.specs.Calls.{nodes_in_links, nodes_in_order, nodes_in_reach, nodes_in_trees, window_calls, with_new}

-- a node that is looked for and not refused
abbrev pub is_kept : (Tree → Bool) → (Tree → Bool) → Tree → Bool
is_kept sought refused t = sought t && not (refused t)

both : (p : Tree → Bool) (xs ys : List Tree) → list_all p xs ≡ true → list_all p ys ≡ true → list_all p (xs ++ ys) ≡ true
both p xs ys a b = list_all-append p xs ys ∙ ap₂ (λ u v. u && v) a b

-- one list behind another, of which each is kept where nothing is found
pair : (p : Tree → Bool) (x y : Bool) (xs ys : List Tree) → (x ≡ false → list_all p xs ≡ true)
    → (y ≡ false → list_all p ys ≡ true) → (x || y) ≡ false → list_all p (xs ++ ys) ≡ true
pair p x y xs ys first second e = let parts = or_parts x y e in both p xs ys (first parts.0) (second parts.1)

node : (s r : Tree → Bool) (t : Tree) (below : Bool) (ts : List Tree) → (below ≡ false → list_all (is_kept s r) ts ≡ true)
    → found_or (finds r t) below ≡ false → list_all (is_kept s r) (node_or (s t) t ts) ≡ true
node s r t below ts rest e = go (s t) (r t) refl refl e
  where
    go : (x y : Bool) → s t ≡ x → r t ≡ y → found_or (if y then Found else Below) below ≡ false
        → list_all (is_kept s r) (node_or x t ts) ≡ true
    go x true sought kept found = absurd (true≢false found)
    go true false sought kept found = ap₂ (λ u v. (u && not v) && true) sought kept
    go false false sought kept found = rest found

mutual
  below : (s r : Tree → Bool) (t : Tree) → some_below (finds r) t ≡ false → list_all (is_kept s r) (nodes_below s t) ≡ true
  below s r NullWord e = refl
  below s r (Numeral n) e = refl
  below s r (Quoted text) e = refl
  below s r (Field qualifier name) e = refl
  below s r (Invoked name given filter reach) e =
      pair (is_kept s r) _ _ _ _ (in_given s r given) (pair (is_kept s r) _ _ _ _ (in_filter s r filter) (in_reach s r reach)) e
  below s r (Negated t) e = node s r t _ _ (below s r t) e
  below s r (Signed minus t) e = node s r t _ _ (below s r t) e
  below s r (Joined kind t links) e = pair (is_kept s r) _ _ _ _ (node s r t _ _ (below s r t)) (in_links s r links) e
  below s r (Compared comparison a b) e =
      pair (is_kept s r) _ _ (nodes_in s a) (nodes_in s b) (node s r a _ _ (below s r a)) (node s r b _ _ (below s r b)) e
  below s r (NullTest negated t) e = node s r t _ _ (below s r t) e
  below s r (Within negated t l h) e =
      pair (is_kept s r) _ _ (nodes_in s t) (nodes_in s l ++ nodes_in s h) (node s r t _ _ (below s r t))
      (pair (is_kept s r) _ _ (nodes_in s l) (nodes_in s h) (node s r l _ _ (below s r l)) (node s r h _ _ (below s r h))) e
  below s r (Among negated t list) e = pair (is_kept s r) _ _ _ _ (node s r t _ _ (below s r t)) (in_trees s r list) e

  in_trees : (s r : Tree → Bool) (ts : Trees) → some_tree (finds r) ts ≡ false → list_all (is_kept s r) (nodes_in_trees s ts) ≡ true
  in_trees s r NoTrees e = refl
  in_trees s r (MoreTrees t ts) e = pair (is_kept s r) _ _ _ _ (node s r t _ _ (below s r t)) (in_trees s r ts) e

  in_links : (s r : Tree → Bool) (ls : Links) → some_link (finds r) ls ≡ false → list_all (is_kept s r) (nodes_in_links s ls) ≡ true
  in_links s r NoLinks e = refl
  in_links s r (Further front operator t) e = pair (is_kept s r) _ _ _ _ (in_links s r front) (node s r t _ _ (below s r t)) e

  in_given : (s r : Tree → Bool) (g : Given) → some_given (finds r) g ≡ false → list_all (is_kept s r) (nodes_given s g) ≡ true
  in_given s r Everything e = refl
  in_given s r (These ts) e = in_trees s r ts e
  in_given s r (Columns ts) e = in_trees s r ts e

  in_filter : (s r : Tree → Bool) (f : Filter) → some_filter (finds r) f ≡ false → list_all (is_kept s r) (nodes_in_filter s f) ≡ true
  in_filter s r Unfiltered e = refl
  in_filter s r (FilteredBy t) e = node s r t _ _ (below s r t) e

  in_reach : (s r : Tree → Bool) (w : Reach) → some_reach (finds r) w ≡ false → list_all (is_kept s r) (nodes_in_reach s w) ≡ true
  in_reach s r ItsGroup e = refl
  in_reach s r (ThatWindow name) e = refl
  in_reach s r (OwnWindow copied partition order frame) e = pair (is_kept s r) _ _ _ _ (in_trees s r partition) (in_keys s r order) e

  in_keys : (s r : Tree → Bool) (ks : Keys) → some_key (finds r) ks ≡ false → list_all (is_kept s r) (nodes_in_keys s ks) ≡ true
  in_keys s r NoKeys e = refl
  in_keys s r (MoreKeys t descending nulls more) e = pair (is_kept s r) _ _ _ _ (node s r t _ _ (below s r t)) (in_keys s r more) e

-- an expression in which nothing is refused
expression : (s r : Tree → Bool) (t : Tree) → found_or (finds r t) (some_below (finds r) t) ≡ false
    → list_all (is_kept s r) (nodes_in s t) ≡ true
expression s r t e = node s r t (some_below (finds r) t) (nodes_below s t) (below s r t) e

in_items : (s r : Tree → Bool) (items : List ItemTree) → some_item (finds r) items ≡ false
    → list_all (is_kept s r) (nodes_in_items s items) ≡ true
in_items s r [] e = refl
in_items s r (AllColumns ∷ items) e = in_items s r items e
in_items s r (Computed t alias ∷ items) e = pair (is_kept s r) _ _ _ _ (expression s r t) (in_items s r items) e

-- a key of the query's ORDER BY: below one that stands for an item there is no call
key : (cs : List Titled) (items : List ItemTree) (r : Tree → Bool) (t : Tree)
    → (not (is_output cs items t) && found_or (finds r t) (some_below (finds r) t)) ≡ false
    → list_all (is_kept (is_call_of Windowed) r) (nodes_in (is_call_of Windowed) t) ≡ true
key cs items r (Numeral n) e = refl
key cs items r (Field qualifier name) e = refl
key cs items r t e = expression (is_call_of Windowed) r t e

in_order : (cs : List Titled) (items : List ItemTree) (r : Tree → Bool) (ks : List KeyTree)
    → some_sort cs items (finds r) ks ≡ false → list_all (is_kept (is_call_of Windowed) r) (nodes_in_order (is_call_of Windowed) ks) ≡ true
in_order cs items r [] e = refl
in_order cs items r (k ∷ ks) e = pair (is_kept (is_call_of Windowed) r) _ _ _ _ (key cs items r k.expression) (in_order cs items r ks) e

-- what holds of all that is listed holds of each once
each_once : (p : Tree → Bool) (ts found : List Tree) → list_all p found ≡ true → list_all p ts ≡ true
    → list_all p (with_new found ts) ≡ true
each_once p [] found a b = a
each_once p (t ∷ ts) found a b =
    each_once p ts (if list_any (λ (u : Tree). is_same u t) found then found else found ++ (t ∷ []))
    (more (list_any (λ (u : Tree). is_same u t) found)) (and_parts (p t) (list_all p ts) b).1
  where
    more : (known : Bool) → list_all p (if known then found else found ++ (t ∷ [])) ≡ true
    more true = a
    more false = both p found (t ∷ []) a (ap₂ (λ u v. u && v) (and_parts (p t) (list_all p ts) b).0 refl)

-- the calls with OVER where none of a query is refused
pub calls_kept : (cs : List Titled) (c : Clauses) (r : Tree → Bool) → some_anywhere cs c (finds r) ≡ false
    → list_all (is_kept (is_call_of Windowed) r) (window_calls c) ≡ true
calls_kept cs c r e =
    let shown = (or_parts (some_shown cs c (finds r)) (some_option (finds r) c.condition || some_option (finds r) c.having) e).0 in
    let parts = or_parts (some_item (finds r) c.items) (some_entry (finds r) c.windows || some_sort cs c.items (finds r) c.order) shown in
    let sorted = (or_parts (some_entry (finds r) c.windows) (some_sort cs c.items (finds r) c.order) parts.1).1 in
    each_once (is_kept (is_call_of Windowed) r) _ [] refl (both (is_kept (is_call_of Windowed) r) _ _
    (in_items (is_call_of Windowed) r c.items parts.0) (in_order cs c.items r c.order sorted))
