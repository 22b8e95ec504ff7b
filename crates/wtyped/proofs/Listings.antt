-- The calls that a SELECT lists, and the looks at its clauses that they answer.
use Rattle.std.proofs.Common.{◌≡◌, Bool, true, false, not, ◌&&◌, List, [], ◌∷◌, ◌++◌, Option, Some, None, refl, sym, ap₂, ◌∙◌}
use Rattle.std.specs.List.{list_all}
use Rattle.std.proofs.lemmas.Bool.{or_parts, or_from, and_parts, and_right}
use Rattle.std.proofs.lemmas.List.Folds.{list_all-append}
use Rattle.wquery.specs.Tree.{Tree, Numeral, Field, KeyTree, own_window}
use Rattle.wquery.specs.QueryTree.{Clauses, ItemTree, AllColumns, Computed, EntryTree}
use Rattle.wscope.specs.declared.look.Look.{Look}
use Rattle.wscope.specs.Scope.{is_output, some_entry, some_item, some_option, some_sort}
use Rattle.wscope.specs.Seeking.{some_node}
use Rattle.wscope.specs.Types.{Titled}
use Rattle.wdistinct.specs.declared.distinct_calls.CallKind.{CallKind}
use Rattle.wdistinct.specs.declared.distinct_calls.CallKind.TheVariants.{Grouped, Windowed}
use Rattle.wdistinct.specs.Calls.{group_calls, is_call_of, nodes_in, nodes_in_entries, nodes_in_items}
use Rattle.wdistinct.specs.Calls.{nodes_in_option, nodes_in_order, nodes_in_reach, window_calls}
use Rattle.wtyped.proofs.Alike.{all_listed, each_once, is_listed}
use Rattle.wtyped.proofs.Walks.{Kept, Shut, Unseen, listed_in, listed_window, passed_in, passed_window, sees_failed}

both : (p : Tree → Bool) (xs ys : List Tree) → list_all p xs ≡ true → list_all p ys ≡ true → list_all p (xs ++ ys) ≡ true
both p xs ys a b = list_all-append p xs ys ∙ ap₂ (λ u v. u && v) a b

front : (p : Tree → Bool) (xs ys : List Tree) → list_all p (xs ++ ys) ≡ true → list_all p xs ≡ true
front p xs ys e = (and_parts _ _ (sym (list_all-append p xs ys) ∙ e)).0

back : (p : Tree → Bool) (xs ys : List Tree) → list_all p (xs ++ ys) ≡ true → list_all p ys ≡ true
back p xs ys e = (and_parts _ _ (sym (list_all-append p xs ys) ∙ e)).1

-- what is listed of the clauses

items_kept : (s : Tree → Bool) (w : Tree → Look) (K : Tree → Bool) → Kept s w K → Shut s w K → (is : List ItemTree)
    → some_item w is ≡ false → list_all K (nodes_in_items s is) ≡ true
items_kept s w K h c [] e = refl
items_kept s w K h c (AllColumns ∷ is) e = items_kept s w K h c is e
items_kept s w K h c (Computed t alias ∷ is) e =
    let p = or_parts _ _ e in both K (nodes_in s t) (nodes_in_items s is) (listed_in s w K h c t p.0) (items_kept s w K h c is p.1)

option_kept : (s : Tree → Bool) (w : Tree → Look) (K : Tree → Bool) → Kept s w K → Shut s w K → (t : Option Tree) → some_option w t ≡ false
    → list_all K (nodes_in_option s t) ≡ true
option_kept s w K h c None e = refl
option_kept s w K h c (Some t) e = listed_in s w K h c t e

entries_kept : (s : Tree → Bool) (w : Tree → Look) (K : Tree → Bool) → Kept s w K → Shut s w K → (es : List EntryTree)
    → some_entry w es ≡ false → list_all K (nodes_in_entries s es) ≡ true
entries_kept s w K h c [] e = refl
entries_kept s w K h c (entry ∷ es) e =
    let p = or_parts _ _ e in
    both K (nodes_in_reach s (own_window entry.window)) (nodes_in_entries s es)
    (listed_window s w K h c (own_window entry.window) p.0) (entries_kept s w K h c es p.1)

-- below a key that stands for an item there is no call
key_kept : (cs : List Titled) (is : List ItemTree) (kind : CallKind) (w : Tree → Look) (K : Tree → Bool) → Kept (is_call_of kind) w K
    → Shut (is_call_of kind) w K → (t : Tree) → (not (is_output cs is t) && some_node w t) ≡ false
    → list_all K (nodes_in (is_call_of kind) t) ≡ true
key_kept cs is kind w K h c (Numeral n) e = refl
key_kept cs is kind w K h c (Field qualifier name) e = refl
key_kept cs is kind w K h c t e = listed_in (is_call_of kind) w K h c t e

order_kept : (cs : List Titled) (is : List ItemTree) (kind : CallKind) (w : Tree → Look) (K : Tree → Bool) → Kept (is_call_of kind) w K
    → Shut (is_call_of kind) w K → (ks : List KeyTree) → some_sort cs is w ks ≡ false
    → list_all K (nodes_in_order (is_call_of kind) ks) ≡ true
order_kept cs is kind w K h c [] e = refl
order_kept cs is kind w K h c (k ∷ ks) e =
    let p = or_parts _ _ e in
    both K (nodes_in (is_call_of kind) k.expression) (nodes_in_order (is_call_of kind) ks)
    (key_kept cs is kind w K h c k.expression p.0) (order_kept cs is kind w K h c ks p.1)

pub group_kept : (cs : List Titled) (c : Clauses) (w : Tree → Look) (K : Tree → Bool) → Kept (is_call_of Grouped) w K
    → Shut (is_call_of Grouped) w K → Unseen cs c w → list_all K (group_calls c) ≡ true
group_kept cs c w K h shut u =
    let s = is_call_of Grouped in
    each_once K [] (nodes_in_items s c.items
    ++ (nodes_in_option s c.having ++ (nodes_in_entries s c.windows ++ nodes_in_order s c.order))) refl
    (both K (nodes_in_items s c.items) (nodes_in_option s c.having ++ (nodes_in_entries s c.windows ++ nodes_in_order s
    c.order)) (items_kept s w K h shut c.items u.items)
    (both K (nodes_in_option s c.having) (nodes_in_entries s c.windows ++ nodes_in_order s c.order)
    (option_kept s w K h shut c.having u.having)
    (both K (nodes_in_entries s c.windows) (nodes_in_order s c.order) (entries_kept s w K h shut c.windows u.entries)
    (order_kept cs c.items Grouped w K h shut c.order u.order))))

pub window_kept : (cs : List Titled) (c : Clauses) (w : Tree → Look) (K : Tree → Bool) → Kept (is_call_of Windowed) w K
    → Shut (is_call_of Windowed) w K → Unseen cs c w → list_all K (window_calls c) ≡ true
window_kept cs c w K h shut u =
    let s = is_call_of Windowed in
    each_once K [] (nodes_in_items s c.items ++ nodes_in_order s c.order) refl
    (both K (nodes_in_items s c.items) (nodes_in_order s c.order) (items_kept s w K h shut c.items u.items)
    (order_kept cs c.items Windowed w K h shut c.order u.order))

-- the looks that find what is not listed

items_passed : (s K : Tree → Bool) (is : List ItemTree) → list_all K (nodes_in_items s is) ≡ true → some_item (sees_failed s K) is ≡ false
items_passed s K [] e = refl
items_passed s K (AllColumns ∷ is) e = items_passed s K is e
items_passed s K (Computed t alias ∷ is) e =
    or_from _ _ (passed_in s K t (front K (nodes_in s t) (nodes_in_items s is) e))
    (items_passed s K is (back K (nodes_in s t) (nodes_in_items s is) e))

option_passed : (s K : Tree → Bool) (t : Option Tree) → list_all K (nodes_in_option s t) ≡ true → some_option (sees_failed s K) t ≡ false
option_passed s K None e = refl
option_passed s K (Some t) e = passed_in s K t e

entries_passed : (s K : Tree → Bool) (es : List EntryTree) → list_all K (nodes_in_entries s es) ≡ true
    → some_entry (sees_failed s K) es ≡ false
entries_passed s K [] e = refl
entries_passed s K (entry ∷ es) e =
    or_from _ _
    (passed_window s K (own_window entry.window) (front K (nodes_in_reach s (own_window entry.window))
    (nodes_in_entries s es) e)) (entries_passed s K es (back K (nodes_in_reach s (own_window entry.window)) (nodes_in_entries s es) e))

order_passed : (cs : List Titled) (is : List ItemTree) (s K : Tree → Bool) (ks : List KeyTree) → list_all K (nodes_in_order s ks) ≡ true
    → some_sort cs is (sees_failed s K) ks ≡ false
order_passed cs is s K [] e = refl
order_passed cs is s K (k ∷ ks) e =
    or_from _ _
    (and_right (not (is_output cs is k.expression)) (some_node (sees_failed s K) k.expression)
    (passed_in s K k.expression (front K (nodes_in s k.expression) (nodes_in_order s ks) e)))
    (order_passed cs is s K ks (back K (nodes_in s k.expression) (nodes_in_order s ks) e))

abbrev pub sees_group_unlisted : Clauses → Tree → Look
sees_group_unlisted c = sees_failed (is_call_of Grouped) (is_listed (group_calls c))

abbrev pub sees_window_unlisted : Clauses → Tree → Look
sees_window_unlisted c = sees_failed (is_call_of Windowed) (is_listed (window_calls c))

pub group_listed : (cs : List Titled) (c : Clauses) → Unseen cs c (sees_group_unlisted c)
group_listed cs c =
    let s = is_call_of Grouped in
    let K = is_listed (group_calls c) in
    let all = all_listed [] (nodes_in_items s c.items
    ++ (nodes_in_option s c.having ++ (nodes_in_entries s c.windows ++ nodes_in_order s c.order))) in
    let rest = back K (nodes_in_items s c.items)
    (nodes_in_option s c.having ++ (nodes_in_entries s c.windows ++ nodes_in_order s c.order)) all in
    let last = back K (nodes_in_option s c.having) (nodes_in_entries s c.windows ++ nodes_in_order s c.order) rest in
    record {
      items =
          items_passed s K c.items (front K (nodes_in_items s c.items)
          (nodes_in_option s c.having ++ (nodes_in_entries s c.windows ++ nodes_in_order s c.order)) all);
      having =
          option_passed s K c.having (front K (nodes_in_option s c.having) (nodes_in_entries s c.windows ++ nodes_in_order s c.order) rest);
      entries = entries_passed s K c.windows (front K (nodes_in_entries s c.windows) (nodes_in_order s c.order) last);
      order = order_passed cs c.items s K c.order (back K (nodes_in_entries s c.windows) (nodes_in_order s c.order) last);
    }

pub record WindowListed (cs : List Titled) (c : Clauses) : Type 0 where
  pub items : some_item (sees_window_unlisted c) c.items ≡ false
  pub order : some_sort cs c.items (sees_window_unlisted c) c.order ≡ false

pub window_listed : (cs : List Titled) (c : Clauses) → WindowListed cs c
window_listed cs c = record {
  items =
      items_passed (is_call_of Windowed) (is_listed (window_calls c)) c.items (front (is_listed (window_calls c))
      (nodes_in_items (is_call_of Windowed) c.items) (nodes_in_order (is_call_of Windowed) c.order) all);
  order =
      order_passed cs c.items (is_call_of Windowed) (is_listed (window_calls c)) c.order
      (back (is_listed (window_calls c)) (nodes_in_items (is_call_of Windowed) c.items)
      (nodes_in_order (is_call_of Windowed) c.order) all);
}
  where
    all : list_all (is_listed (window_calls c))
        (nodes_in_items (is_call_of Windowed) c.items ++ nodes_in_order (is_call_of Windowed) c.order) ≡ true
    all = all_listed [] (nodes_in_items (is_call_of Windowed) c.items ++ nodes_in_order (is_call_of Windowed) c.order)
