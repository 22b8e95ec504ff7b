-- What an accepted query asks for is within the limits.
use Rattle.std.proofs.Common.{◌≡◌, Bool, true, false, not, ◌||◌, ℕ, suc, ◌+◌, ◌*◌, ◌^◌, ◌≤◌, nat_lt, nat_le, List}
use Rattle.std.proofs.Common.{[], ◌∷◌, ◌++◌, length, map, None, refl, ap, ap₂, ◌∙◌, length-append, arith}
use Rattle.std.specs.Prelude.{if◌then◌else◌}
use Rattle.std.specs.List.{list_all, list_any}
use Rattle.std.proofs.lemmas.Bool.{or_parts, and_parts, and_from, not-true, le-leb, ltb-false}
use Rattle.std.proofs.lemmas.List.{length-map}
use Rattle.std.proofs.lemmas.List.Folds.{list_all-append}
use Rattle.wsegment.specs.Declaration.{Declaration}
use Rattle.wquery.specs.GroupElements.{Element, Entry, OneSet, Rollup, Cube}
use Rattle.wquery.specs.QueryTree.{Clauses, QueryTree, Selected, SourceTree, FromTable, FromQuery}
use Rattle.wquery.specs.QueryTree.{ItemTree, AllColumns, Computed, EntryTree}
use Rattle.wquery.specs.Tree.{Tree, Invoked, Trees, NoTrees, MoreTrees, Reach, ItsGroup, ThatWindow}
use Rattle.wquery.specs.Tree.{OwnWindow, Keys, NoKeys, MoreKeys, KeyTree, keys, trees}
use Rattle.wnodes.specs.Nodes.{count_keys, count_trees, found_below}
use Rattle.wscope.specs.Finding.{finds}
use Rattle.wscope.specs.Scope.{some_anywhere}
use Rattle.wscope.specs.Sources.{origin_of, written_out}
use Rattle.wscope.specs.Types.{Titled}
use Rattle.wscope.specs.Windows.{NamedWindow, Expanded, expand, expand_all, expand_tree}
use Rattle.wnodes.proofs.Related.{Relates, related}
use Rattle.wwindows.specs.Limits.{breaks_limits, count_over, count_windows, counting, has_long_list}
use Rattle.wwindows.specs.Limits.{is_long_entry, over_items, over_order, with_own}
use Rattle.wwindows.specs.Order.{count_items}
use Rattle.wwindows.specs.Windows.{reach_is, windows_of}
use Rattle.wrules.specs.declared.rule.Rule.TheVariants.{OverLimit, TooManySets}
use Rattle.wrules.specs.Rules.{depth, depth_rule, judged, least, least_source, or_else, sets_rule, source_depth}
use Rattle.wgroupby.specs.Laws.{CountsSets}
use Rattle.wgroupby.specs.Rules.{are_parts_long, breaks_lists, breaks_sets, element_by, elements_by}
use Rattle.wgroupby.specs.Rules.{entry_by, is_element_long, is_entry_long, is_long}
use Rattle.wgroupby.specs.Sets.{element_count, entry_count, query_sets, sets_count}
use Rattle.wdistinct.specs.declared.distinct_calls.CallKind.TheVariants.{Windowed}
use Rattle.wdistinct.specs.Calls.{group_calls, is_call_of, node_or, nodes_below, nodes_in, nodes_in_items}
use Rattle.wdistinct.specs.Calls.{nodes_in_order, picking, window_calls, with_new}
use Rattle.wbinding.specs.Groups.{column_place, elements_made}
use Rattle.wbinding.specs.Resolving.{Layout}
use Rattle.wresolve.specs.Selecting as made
use Rattle.wresolve.specs.Selecting.{entries_made, keys_made, order_made, output_made, own_windows, resolved_query, resolved_source}
use Rattle.wresolve.specs.Selecting.{select_made, select_over, trees_made, window_made, window_of_reach, windows_made}
use Rattle.wtyped.specs.Bounded.{AcceptedIsBounded, has_few_entries, has_few_sets, has_short_entries, has_short_grouping}
use Rattle.wtyped.specs.Bounded.{has_short_lists, has_short_parts, is_bounded, is_short, is_short_query, is_short_source}
use Rattle.wtyped.proofs.Alike.{is_listed}
use Rattle.wtyped.proofs.Rows as rows
use Rattle.wtyped.proofs.Rows.{row_of}
use Rattle.wtyped.proofs.Rules.{neither, not_broken, rules_kept}
use Rattle.wtyped.proofs.Scoped.{items_length}
use Rattle.wtyped.proofs.Tests.{AreFalse, are_false, are_true}
use Rattle.wtyped.proofs.Walks.{nowhere}
use Rattle.wtyped.proofs.Windows.{AreMade, IsMade, all_made, settled_made}

-- sets

entry_same : {X Y : Type 0} (f : X → Y) (e : Entry X) → entry_count (entry_by f e) ≡ entry_count e
entry_same f (OneSet columns) = refl
entry_same f (Rollup parts) = ap suc (length-map parts (map f))
entry_same f (Cube parts) = ap (λ (n : ℕ). 2 ^ n) (length-map parts (map f))

element_same : {X Y : Type 0} (f : X → Y) (e : Element X) → element_count (element_by f e) ≡ element_count e
element_same f [] = refl
element_same f (x ∷ e) = ap₂ (λ (m n : ℕ). m + n) (entry_same f x) (element_same f e)

sets_same : {X Y : Type 0} (f : X → Y) (es : List (Element X)) → sets_count (elements_by f es) ≡ sets_count es
sets_same f [] = refl
sets_same f (e ∷ es) = ap₂ (λ (m n : ℕ). m * n) (element_same f e) (sets_same f es)

few : (most n : ℕ) → nat_lt most n ≡ false → nat_le n most ≡ true
few most n e = le-leb n most (ltb-false most n e)

few_of : (most n m : ℕ) → n ≡ m → nat_lt most m ≡ false → nat_le n most ≡ true
few_of most n m is e = ap (λ (x : ℕ). nat_le x most) is ∙ few most m e

sets_few : CountsSets ℕ → (cs : List Titled) (c : Clauses) (b : Bool) → breaks_sets c.grouping ≡ false
    → has_few_sets (made.grouping_over cs (elements_made cs c.grouping) (group_calls c) (row_of cs c b) c (row_of cs c b).grouping) ≡ true
sets_few count cs c false e = refl
sets_few count cs c true e =
    few_of 64 (length (query_sets (elements_made cs c.grouping))) (sets_count c.grouping)
    (count (elements_made cs c.grouping) ∙ sets_same (column_place cs) c.grouping) e

-- the lists of GROUP BY

each_short : {X : Type 0} (long short : X → Bool) → ((x : X) → long x ≡ false → short x ≡ true) → (xs : List X)
    → list_any long xs ≡ false → list_all short xs ≡ true
each_short long short step [] e = refl
each_short long short step (x ∷ xs) e =
    let p = or_parts _ _ e in
    and_from _ _ (step x p.0) (each_short long short step xs p.1)

list_short : {X : Type 0} (xs : List X) → is_long xs ≡ false → is_short xs ≡ true
list_short xs e = few 16 (length xs) e

parts_short : (parts : List (List Tree)) → are_parts_long parts ≡ false → has_short_parts parts ≡ true
parts_short parts e =
    let p = or_parts _ _ e in
    and_from _ _ (list_short parts p.0) (each_short is_long is_short list_short parts p.1)

entry_short : (x : Entry Tree) → is_entry_long x ≡ false → has_short_lists x ≡ true
entry_short (OneSet columns) e = list_short columns e
entry_short (Rollup parts) e = parts_short parts e
entry_short (Cube parts) e = parts_short parts e

element_short : (x : Element Tree) → is_element_long x ≡ false → has_short_entries x ≡ true
element_short x e =
    let p = or_parts _ _ e in
    and_from _ _ (list_short x p.0) (each_short is_entry_long has_short_lists entry_short x p.1)

grouping_short : (c : Clauses) → breaks_lists c.grouping ≡ false → has_short_grouping c ≡ true
grouping_short c e =
    let p = or_parts _ _ e in
    and_from _ _ (list_short c.grouping p.0)
    (each_short is_element_long has_short_entries element_short c.grouping p.1)

-- the entries of windows

trees_length : (l : Layout) (us : Trees) → length (trees_made l us) ≡ count_trees us
trees_length l NoTrees = refl
trees_length l (MoreTrees t us) = ap suc (trees_length l us)

keys_length : (l : Layout) (ks : Keys) → length (keys_made l ks) ≡ count_keys ks
keys_length l NoKeys = refl
keys_length l (MoreKeys t descending nulls more) = ap suc (keys_length l more)

-- a window with few entries
abbrev FewParts : Trees → Type 0
FewParts us = nat_lt 16 (count_trees us) ≡ false

abbrev FewKeys : Keys → Type 0
FewKeys ks = nat_lt 16 (count_keys ks) ≡ false

abbrev IsFew : Expanded → Type 0
IsFew w = IsMade FewParts FewKeys w

abbrev AreFew : List NamedWindow → Type 0
AreFew ws = AreMade FewParts FewKeys ws

entries_few : (es : List EntryTree) → list_any is_long_entry es ≡ false → AreFew (expand_all [] es)
entries_few es e = all_made FewParts FewKeys (refl, refl) (λ xs. list_any is_long_entry xs ≡ false) each [] es tt e
  where
    each : (x : EntryTree) (xs : List EntryTree) → list_any is_long_entry (x ∷ xs) ≡ false
        → (FewParts (trees x.window.partition) × FewKeys (keys x.window.order)) × (list_any is_long_entry xs ≡ false)
    each x xs a =
        let p = or_parts _ _ a in
        (or_parts _ _ p.0, p.1)

window_few : (l : Layout) (w : Expanded) → IsFew w → has_few_entries (window_made l w) ≡ true
window_few l w a =
    and_from _ _ (few_of 16 (length (trees_made l w.partition)) (count_trees w.partition) (trees_length l w.partition) a.0)
    (few_of 16 (length (keys_made l w.order)) (count_keys w.order) (keys_length l w.order) a.1)

named_windows : (l : Layout) (ws : List NamedWindow) → AreFew ws → list_all has_few_entries (entries_made l ws) ≡ true
named_windows l [] a = refl
named_windows l (w ∷ ws) a =
    and_from _ _ (window_few l w.window a.0) (named_windows l ws a.1)

reach_few : (l : Layout) (ws : List NamedWindow) (reach : Reach) → AreFew ws → has_long_list reach ≡ false
    → list_all has_few_entries (window_of_reach l ws reach) ≡ true
reach_few l ws ItsGroup a e = refl
reach_few l ws (ThatWindow name) a e = refl
reach_few l ws (OwnWindow copied us ks frame) a e =
    let p = or_parts _ _ e in let w = expand ws copied us ks frame in
    and_from _ _ (window_few l w (settled_made FewParts FewKeys (refl, refl) ws copied us ks frame a p.0 p.1)) refl

one_few : (l : Layout) (ws : List NamedWindow) (t : Tree) → AreFew ws → reach_is has_long_list t ≡ false
    → list_all has_few_entries (made.own_window l ws t) ≡ true
one_few l ws (Invoked name given filter reach) a e = reach_few l ws reach a e
one_few l ws _ a e = refl

owns_few : (l : Layout) (ws : List NamedWindow) (ts : List Tree) → AreFew ws
    → list_all (λ (t : Tree). not (reach_is has_long_list t)) ts ≡ true → list_all has_few_entries (own_windows l ws ts) ≡ true
owns_few l ws [] a e = refl
owns_few l ws (t ∷ ts) a e =
    let p = and_parts _ _ e in
    list_all-append has_few_entries (made.own_window l ws t) (own_windows l ws ts)
    ∙ and_from _ _ (one_few l ws t a (not-true _ p.0)) (owns_few l ws ts a p.1)

-- the number of windows

entries_count : (l : Layout) (ws : List NamedWindow) → length (entries_made l ws) ≡ length ws
entries_count l [] = refl
entries_count l (w ∷ ws) = ap suc (entries_count l ws)

expanded_count : (ws : List NamedWindow) (es : List EntryTree) → length (expand_all ws es) ≡ length ws + length es
expanded_count ws [] = omega arith
expanded_count ws (e ∷ es) =
    let x : NamedWindow = record { name = e.name; window = expand_tree ws e.window } in
    let rest = expanded_count (ws ++ x ∷ []) es in let longer = length-append ws (x ∷ []) in omega (arith, rest, longer)

-- the windows of its own that a call has, and those of calls in a list
abbrev own_count : Tree → ℕ
own_count t = if made.has_own_window t then 1 else 0

abbrev owns : List Tree → ℕ
owns [] = 0
owns (t ∷ ts) = own_count t + owns ts

own_length : (l : Layout) (ws : List NamedWindow) (t : Tree) → length (made.own_window l ws t) ≡ own_count t
own_length l ws (Invoked name given filter ItsGroup) = refl
own_length l ws _ = refl

owns_length : (l : Layout) (ws : List NamedWindow) (ts : List Tree) → length (own_windows l ws ts) ≡ owns ts
owns_length l ws [] = refl
owns_length l ws (t ∷ ts) =
    length-append (made.own_window l ws t) (own_windows l ws ts) ∙ ap₂ (λ (m n : ℕ). m + n) (own_length l ws t) (owns_length l ws ts)

owns_behind : (xs ys : List Tree) → owns (xs ++ ys) ≡ owns xs + owns ys
owns_behind [] ys = omega arith
owns_behind (x ∷ xs) ys = let rest = owns_behind xs ys in omega (arith, rest)

both : (xs ys : List Tree) (m n : ℕ) → owns xs ≤ m → owns ys ≤ n → owns (xs ++ ys) ≤ m + n
both xs ys m n a b = let sum = owns_behind xs ys in omega (arith, sum, a, b)

own_within : (t : Tree) (below : ℕ) → own_count t + 0 ≤ with_own t below
own_within (Invoked name given filter ItsGroup) below = omega arith
own_within _ below = omega arith

below_within : (t : Tree) (n below : ℕ) → n ≤ below → n ≤ with_own t below
below_within (Invoked name given filter reach) n below e = omega (arith, e)
below_within t n below e = e

at_node : (t : Tree) (below : ℕ) → owns (nodes_below (is_call_of Windowed) t) ≤ below
    → owns (nodes_in (is_call_of Windowed) t) ≤ with_own t below
at_node t below rest = go (is_call_of Windowed t)
  where
    go : (b : Bool) → owns (node_or b t (nodes_below (is_call_of Windowed) t)) ≤ with_own t below
    go true = own_within t below
    go false = below_within t (owns (nodes_below (is_call_of Windowed) t)) below rest

owned : Relates (λ xs m n. owns xs ≤ m) (picking (is_call_of Windowed)) counting counting
owned = record {
  none = omega arith;
  both = λ xs ys m n k l a b. both xs ys m n a b;
  at =
      λ t rest. at_node t (found_below counting t) rest;
}

in_tree : (t : Tree) → owns (nodes_in (is_call_of Windowed) t) ≤ count_over t
in_tree t = related _ (picking (is_call_of Windowed)) counting counting owned t

in_items : (is : List ItemTree) → owns (nodes_in_items (is_call_of Windowed) is) ≤ over_items is
in_items [] = omega arith
in_items (AllColumns ∷ is) = in_items is
in_items (Computed t alias ∷ is) =
    both (nodes_in (is_call_of Windowed) t) (nodes_in_items (is_call_of Windowed) is) (count_over t) (over_items is)
    (in_tree t) (in_items is)

in_order : (ks : List KeyTree) → owns (nodes_in_order (is_call_of Windowed) ks) ≤ over_order ks
in_order [] = omega arith
in_order (k ∷ ks) =
    both (nodes_in (is_call_of Windowed) k.expression) (nodes_in_order (is_call_of Windowed) ks) (count_over k.expression)
    (over_order ks) (in_tree k.expression) (in_order ks)

each_once : (found ts : List Tree) → owns (with_new found ts) ≤ owns found + owns ts
each_once found [] = omega arith
each_once found (t ∷ ts) =
    let rest = each_once (if is_listed found t then found else found ++ (t ∷ [])) ts in let here = go (is_listed found t) in
    omega (arith, rest, here)
  where
    go : (b : Bool) → owns (if b then found else found ++ (t ∷ [])) ≤ owns found + own_count t
    go true = omega arith
    go false = let sum = owns_behind found (t ∷ []) in omega (arith, sum)

calls_few : (c : Clauses) → owns (window_calls c) ≤ over_items c.items + over_order c.order
calls_few c =
    let is = nodes_in_items (is_call_of Windowed) c.items in let ks = nodes_in_order (is_call_of Windowed) c.order in
    let once = each_once [] (is ++ ks) in
    let all = both is ks (over_items c.items) (over_order c.order) (in_items c.items) (in_order c.order) in omega (arith, once, all)

windows_few : (l : Layout) (c : Clauses) → nat_lt 32 (count_windows c) ≡ false
    → nat_le (length (windows_made l (windows_of c) (window_calls c))) 32 ≡ true
windows_few l c e =
    let ws = windows_of c in
    let all = length-append (entries_made l ws) (own_windows l ws (window_calls c)) in
    let entries = entries_count l ws in let expanded = expanded_count [] c.windows in
    let owned = owns_length l ws (window_calls c) in let calls = calls_few c in let most = ltb-false 32 (count_windows c) e in
    le-leb (length (windows_made l ws (window_calls c))) 32 (omega (arith, all, entries, expanded, owned, calls, most))

-- what the limits say
limits : (cs : List Titled) (c : Clauses) → breaks_limits cs c ≡ false
    → AreFalse (nat_lt 64 (count_items cs c.items))
    (nat_lt 32 (count_windows c) ∷ (breaks_lists c.grouping || nat_lt 16 (length c.order)) ∷ list_any is_long_entry
    c.windows ∷ some_anywhere cs c (finds (reach_is has_long_list)) ∷ [])
limits cs c e =
    are_false (nat_lt 64 (count_items cs c.items))
    (nat_lt 32 (count_windows c) ∷ (breaks_lists c.grouping || nat_lt 16 (length c.order)) ∷ list_any is_long_entry
    c.windows ∷ some_anywhere cs c (finds (reach_is has_long_list)) ∷ []) e

-- one SELECT

select_few : CountsSets ℕ → (cs : List Titled) (c : Clauses) (b : Bool) → breaks_limits cs c ≡ false → breaks_sets c.grouping ≡ false
    → is_bounded (select_over cs (elements_made cs c.grouping) (group_calls c) (window_calls c) (row_of cs c b) c) ≡ true
select_few count cs c b e f =
    let l = row_of cs c b in let p = select_over cs (elements_made cs c.grouping) (group_calls c) (window_calls c) l c in
    let i = limits cs c e in let n = i.1.1.1 in
    let o = or_parts _ _ i.1.1.0 in
    let ws = windows_of c in let a = entries_few c.windows n.0 in
    are_true (nat_le (length p.items) 64) (nat_le (length p.windows) 32 ∷ list_all has_few_entries p.windows ∷ nat_le
    (length p.keys) 16 ∷ has_few_sets p.grouping ∷ []) (
      few_of 64 (length p.items) (count_items cs c.items) (length-map (written_out cs c.items) (output_made l)
          ∙ items_length cs c.items) i.0,
      (
        windows_few l c i.1.0,
        (
          list_all-append has_few_entries (entries_made l ws) (own_windows l ws (window_calls c))
              ∙ and_from _ _ (named_windows l ws a)
              (owns_few l ws (window_calls c) a (rows.windows_without cs c (reach_is has_long_list)
              (nowhere cs c (finds (reach_is has_long_list)) n.1))),
          (
            few_of 16 (length p.keys) (length c.order) (length-map c.order (order_made l (written_out cs c.items))) o.1,
            sets_few count cs c b f,
          ),
        ),
      ),
    )

no_limit_broken : (d : Declaration) (c : Clauses) (s : SourceTree) → judged d.table (origin_of d s) c s ≡ None
    → breaks_limits (origin_of d s).columns c ≡ false
no_limit_broken d c s e = let o = origin_of d s in (rules_kept d.table o.alias o.columns c s e).limits

one_select : CountsSets ℕ → (d : Declaration) (c : Clauses) (s : SourceTree) → judged d.table (origin_of d s) c s ≡ None
    → sets_rule (Selected c s) ≡ None → is_bounded (select_made (origin_of d s).columns c) ≡ true
one_select count d c s e f =
    select_few count (origin_of d s).columns c (made.is_grouped c (group_calls c)) (no_limit_broken d c s e)
    (not_broken TooManySets (breaks_sets c.grouping) f)

no_long_list : (cs : List Titled) (c : Clauses) → breaks_limits cs c ≡ false → breaks_lists c.grouping ≡ false
no_long_list cs c e = (or_parts _ _ (limits cs c e).1.1.0).0

mutual
  query_short : (d : Declaration) (q : QueryTree) → least d q ≡ None → is_short_query q ≡ true
  query_short d (Selected c s) e =
      let n = neither (least_source d s) (judged d.table (origin_of d s) c s) e in
      and_from _ _ (grouping_short c (no_long_list (origin_of d s).columns c (no_limit_broken d c s n.1))) (source_short d s n.0)

  source_short : (d : Declaration) (s : SourceTree) → least_source d s ≡ None → is_short_source s ≡ true
  source_short d (FromTable name alias) e = refl
  source_short d (FromQuery q alias) e = query_short d q (neither (least d q) (sets_rule q) e).0

mutual
  query_few : CountsSets ℕ → (d : Declaration) (q : QueryTree) → least d q ≡ None → sets_rule q ≡ None
      → list_all is_bounded (resolved_query d q) ≡ true
  query_few count d (Selected c s) e f =
      let n = neither (least_source d s) (judged d.table (origin_of d s) c s) e in
      list_all-append is_bounded (resolved_source d s) (select_made (origin_of d s).columns c ∷ [])
      ∙ and_from _ _ (source_few count d s n.0)
      (and_from _ _ (one_select count d c s n.1 f) refl)

  source_few : CountsSets ℕ → (d : Declaration) (s : SourceTree) → least_source d s ≡ None
      → list_all is_bounded (resolved_source d s) ≡ true
  source_few count d (FromTable name alias) e = refl
  source_few count d (FromQuery q alias) e = let n = neither (least d q) (sets_rule q) e in query_few count d q n.0 n.1

mutual
  query_depth : (d : Declaration) (q : QueryTree) → length (resolved_query d q) ≡ suc (depth q)
  query_depth d (Selected c s) =
      let one = length-append (resolved_source d s) (select_made (origin_of d s).columns c ∷ []) in
      let below = source_length d s in omega (arith, one, below)

  source_length : (d : Declaration) (s : SourceTree) → length (resolved_source d s) ≡ source_depth s
  source_length d (FromTable name alias) = refl
  source_length d (FromQuery q alias) = query_depth d q

pub accepted_is_bounded : CountsSets ℕ → AcceptedIsBounded
accepted_is_bounded count d q e =
    let a = neither (least d q) (or_else (depth_rule q) (sets_rule q)) e in
    let b = neither (depth_rule q) (sets_rule q) a.1 in
    let deep = query_depth d q in let least = ltb-false 8 (depth q) (not_broken OverLimit (nat_lt 8 (depth q)) b.0) in
    record {
      selects = query_few count d q a.0 b.1;
      lists = query_short d q a.0;
      depth = omega (arith, deep, least);
    }
