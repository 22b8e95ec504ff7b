-- The words of a query that no rule refuses denote what is there.
use Rattle.std.proofs.Common.{◌≡◌, Bool, true, false, not, ◌&&◌, ◌||◌, ◌==◌, ℕ, zero, suc, ◌+◌, ◌≤◌, nat_lt}
use Rattle.std.proofs.Common.{nat_le, List, [], ◌∷◌, ◌++◌, Option, Some, None, is_some, length, take, refl}
use Rattle.std.proofs.Common.{sym, subst, ap, ap₂, ◌∙◌, append_assoc, length-append, true≢false, arith}
use Rattle.std.specs.Prelude.{if◌then◌else◌}
use Rattle.std.specs.List.{list_any}
use Rattle.std.specs.Str.{bytes_eq}
use Rattle.std.proofs.lemmas.Bool.{or_parts, or_from, and_parts, and_from, not-false, eqb-true, lt-ltb, le-leb, ltb-false, leb-true}
use Rattle.std.proofs.lemmas.List.{append-nil, take_at}
use Rattle.wsegment.specs.Declaration.{Declaration}
use Rattle.wquery.specs.GroupElements.{all_columns}
use Rattle.wquery.specs.QueryTree.{Clauses, QueryTree, Selected, SourceTree, FromTable, FromQuery}
use Rattle.wquery.specs.QueryTree.{ItemTree, AllColumns, Computed, EntryTree}
use Rattle.wquery.specs.Tree.{Tree, NullWord, Numeral, Quoted, Field, Invoked, Signed, Trees, NoTrees, MoreTrees}
use Rattle.wquery.specs.Tree.{Given, Everything, These, Columns, Filter, Unfiltered, FilteredBy, Reach, ItsGroup}
use Rattle.wquery.specs.Tree.{ThatWindow, OwnWindow, Keys, NoKeys, MoreKeys, KeyTree, own_window}
use Rattle.wscope.specs.Called.{first_called, is_column_at, is_unlike, same_shown}
use Rattle.wscope.specs.declared.function.Function.{Function}
use Rattle.wscope.specs.declared.function.Function.TheVariants as functions
use Rattle.wnodes.specs.Nodes.{count_trees}
use Rattle.wscope.specs.Finding.{finds}
use Rattle.wscope.specs.Functions.{function_of, is_aggregate}
use Rattle.wscope.specs.Scope.{has_name, is_output, some_anywhere, some_entry, some_item, some_option, some_sort}
use Rattle.wscope.specs.Seeking.{seeking, some_below, some_node, some_reach}
use Rattle.wscope.proofs.Grouped.{name_sym}
use Rattle.wnodes.proofs.Related.{Relates, related, related_reach}
use Rattle.wscope.specs.Sources.{Shown, Placed, Spelled, ShownItem, columns_from, origin_of, written_out}
use Rattle.wscope.specs.Types.{Origin, Titled, place_named}
use Rattle.wscope.specs.Windows.{NamedWindow, Expanded, or_none, expand_all, expand_tree, window_named}
use Rattle.wnames.specs.Calls.{counts_some, is_bad_call, is_bad_filter, is_number, is_well_given, is_zeroth, passes_at}
use Rattle.wnames.specs.Calls as judged
use Rattle.wnames.specs.Names.{count_named, is_ambiguous, is_ambiguous_key, is_misqualified, is_missing, is_other, names_other_table}
use Rattle.wwindows.specs.Order.{count_items, is_bad_place, is_behind_signs}
use Rattle.wwindows.specs.Windows.{breaks_entries, copies_badly, copies_unknown, is_over_bad_copy}
use Rattle.wwindows.specs.Windows.{is_over_unknown, reach_is, some_entry_after, windows_of}
use Rattle.wwindows.specs.Windows as windows
use Rattle.wrules.specs.Rules.{depth_rule, judged as rules_judged, least, least_source, or_else, sets_rule}
use Rattle.wplan.specs.Formula.{At}
use Rattle.wbinding.specs.Resolving.{Layout, cell_of, resolved}
use Rattle.wresolve.specs.Selecting.{called_or, key_shown, shown_formula}
use Rattle.wtyped.specs.Scoped.{AcceptedIsScoped, AreEntries, AreOneValue, Denotes, DenotesClauses, DenotesColumn, DenotesGroup}
use Rattle.wtyped.specs.Scoped.{DenotesKey, DenotesName, DenotesOrder, DenotesQuery, DenotesSource, InEntries, InItems, InList}
use Rattle.wtyped.specs.Scoped.{InOption, InReach, Throughout, are_none, copies, is_alias, is_called, is_constant, is_filtered}
use Rattle.wtyped.specs.Scoped.{is_form, is_known_call, is_known_window, is_none, places_of, holding}
use Rattle.wtyped.proofs.Equal as equal
use Rattle.wtyped.proofs.Items.{items_called}
use Rattle.wtyped.proofs.Rules.{neither, rules_kept}
use Rattle.wtyped.proofs.Tests.{AreFalse, and_rest, are_false}
use Rattle.wtyped.proofs.Walks.{all_nowhere, open_find, some_of}

-- what holds of each node in which nothing is found holds throughout

abbrev Says : (Tree → Bool) → (Tree → Type 0) → Type 0
Says r P = (n : Tree) → r n ≡ false → P n

all_inside : (r : Tree → Bool) (P : Tree → Type 0) → Says r P → Relates (λ (x : Bool) (X Y : Type 0). x ≡ false
    → X) (seeking (finds r)) (holding P) (holding P)
all_inside r P h = record {
  none = λ e. tt;
  both = λ x x' X X' Y Y' f g e. let p = or_parts x x' e in (f p.0, g p.1);
  at = λ t rest e. let o = open_find (r t) (some_below (finds r) t) e in (h t o.0, rest o.1);
}

in_reach : (r : Tree → Bool) (P : Tree → Type 0) → Says r P → (o : Reach) → some_reach (finds r) o ≡ false → InReach P o
in_reach r P h o = related_reach _ (seeking (finds r)) (holding P) (holding P) (all_inside r P h) o

throughout : (r : Tree → Bool) (P : Tree → Type 0) → Says r P → (t : Tree) → some_node (finds r) t ≡ false → Throughout P t
throughout r P h t = related _ (seeking (finds r)) (holding P) (holding P) (all_inside r P h) t

in_items : (r : Tree → Bool) (P : Tree → Type 0) → Says r P → (is : List ItemTree) → some_item (finds r) is ≡ false → InItems P is
in_items r P h [] e = tt
in_items r P h (AllColumns ∷ is) e = in_items r P h is e
in_items r P h (Computed t alias ∷ is) e =
    let p = or_parts _ _ e in (throughout r P h t p.0, in_items r P h is p.1)

in_option : (r : Tree → Bool) (P : Tree → Type 0) → Says r P → (t : Option Tree) → some_option (finds r) t ≡ false → InOption P t
in_option r P h None e = tt
in_option r P h (Some t) e = throughout r P h t e

in_entries : (r : Tree → Bool) (P : Tree → Type 0) → Says r P → (es : List EntryTree) → some_entry (finds r) es ≡ false → InEntries P es
in_entries r P h [] e = tt
in_entries r P h (x ∷ es) e =
    let p = or_parts _ _ e in (in_reach r P h (own_window x.window) p.0, in_entries r P h es p.1)

in_list : (r : Tree → Bool) (P : Tree → Type 0) → Says r P → (ts : List Tree) → list_any r ts ≡ false → InList P ts
in_list r P h [] e = tt
in_list r P h (t ∷ ts) e = let p = or_parts _ _ e in (h t p.0, in_list r P h ts p.1)

-- columns

no_places : (place : ℕ) (cs : List Titled) (name : List ℕ) → count_named name cs ≡ 0 → places_of place cs name ≡ []
no_places place [] name e = refl
no_places place (c ∷ cs) name e = go (bytes_eq c.name name) e (λ f. no_places (suc place) cs name f)
  where
    go : (b : Bool) → (if b then suc (count_named name cs) else count_named name cs) ≡ 0
        → (count_named name cs ≡ 0 → places_of (suc place) cs name ≡ [])
        → (if b then place ∷ places_of (suc place) cs name else places_of (suc place) cs name) ≡ []
    go true f rest = absurd (omega (arith, f))
    go false f rest = rest f

one_place : (place : ℕ) (cs : List Titled) (name : List ℕ) → list_any (has_name name) cs ≡ true → nat_lt 1 (count_named name cs) ≡ false
    → places_of place cs name ≡ (place + place_named cs name) ∷ []
one_place place [] name e f = absurd (true≢false (sym e))
one_place place (c ∷ cs) name e f = go (bytes_eq c.name name) e f (λ g h. one_place (suc place) cs name g h)
  where
    go : (b : Bool) → (b || list_any (has_name name) cs) ≡ true
        → nat_lt 1 (if b then suc (count_named name cs) else count_named name cs) ≡ false
        → (list_any (has_name name) cs ≡ true → nat_lt 1 (count_named name cs) ≡ false
        → places_of (suc place) cs name ≡ (suc place + place_named cs name) ∷ [])
        → (if b then place ∷ places_of (suc place) cs name else places_of (suc place) cs name)
        ≡ (place + (if b then 0 else suc (place_named cs name))) ∷ []
    go true g h rest =
        let here : place ≡ place + 0 = omega arith in let few = ltb-false 1 (suc (count_named name cs)) h in
        ap₂ (λ (p : ℕ) (ps : List ℕ). p ∷ ps) here (no_places (suc place) cs name (omega (arith, few)))
    go false g h rest =
        let next : suc place + place_named cs name ≡ place + suc (place_named cs name) = omega arith in
        rest g h ∙ ap (λ (p : ℕ). p ∷ []) next

only_place : (cs : List Titled) (name : List ℕ) → list_any (has_name name) cs ≡ true → nat_lt 1 (count_named name cs) ≡ false
    → places_of 0 cs name ≡ place_named cs name ∷ []
only_place cs name e f =
    let first : 0 + place_named cs name ≡ place_named cs name = omega arith in one_place 0 cs name e f ∙ ap (λ (p : ℕ). p ∷ []) first

alias_fits : (alias : List ℕ) (q : Option (List ℕ)) → is_other alias q ≡ false → is_alias alias q ≡ true
alias_fits alias None e = refl
alias_fits alias (Some q) e = not-false _ e

column : (o : Origin) (q : Option (List ℕ)) (name : List ℕ) → is_misqualified o.alias (Field q name) ≡ false
    → is_missing o.columns (Field q name) ≡ false → is_ambiguous o.columns (Field q name) ≡ false → DenotesColumn o q name
column o q name a b c = (alias_fits o.alias q a, only_place o.columns name (not-false _ b) c)

-- calls

no_args : (ts : Trees) → (count_trees ts == 0) ≡ true → ts ≡ NoTrees
no_args NoTrees e = refl
no_args (MoreTrees t ts) e = let n = eqb-true (suc (count_trees ts)) 0 e in absurd (omega (arith, n))

one_arg : (f : Function) (ts : Trees) → ((t : Tree) → is_form f (These (MoreTrees t NoTrees)) ≡ true) → (count_trees ts == 1) ≡ true
    → is_form f (These ts) ≡ true
one_arg f NoTrees h e = absurd (true≢false (sym e))
one_arg f (MoreTrees t NoTrees) h e = h t
one_arg f (MoreTrees t (MoreTrees u us)) h e = let n = eqb-true (suc (suc (count_trees us))) 1 e in absurd (omega (arith, n))

from_one : (n : ℕ) → judged.is_nonzero (Numeral n) ≡ true → nat_lt 0 n ≡ true
from_one zero e = absurd (true≢false (sym e))
from_one (suc n) e = lt-ltb 0 (suc n) (omega arith)

tiles : (ts : Trees) → (count_trees ts == 1) ≡ true → passes_at 0 is_number ts ≡ true → passes_at 0 judged.is_nonzero ts ≡ true
    → is_form functions.Ntile (These ts) ≡ true
tiles NoTrees e f g = absurd (true≢false (sym e))
tiles (MoreTrees (Numeral n) NoTrees) e f g = from_one n g
tiles (MoreTrees (Numeral n) (MoreTrees u us)) e f g = let n = eqb-true (suc (suc (count_trees us))) 1 e in absurd (omega (arith, n))
tiles (MoreTrees _ us) e f g = absurd (true≢false (sym f))

nth : (ts : Trees) → (count_trees ts == 2) ≡ true → passes_at 1 is_number ts ≡ true → passes_at 1 judged.is_nonzero ts ≡ true
    → is_form functions.NthValue (These ts) ≡ true
nth NoTrees e f g = absurd (true≢false (sym e))
nth (MoreTrees v NoTrees) e f g = let n = eqb-true (suc zero) 2 e in absurd (omega (arith, n))
nth (MoreTrees v (MoreTrees (Numeral n) NoTrees)) e f g = from_one n g
nth (MoreTrees v (MoreTrees (Numeral n) (MoreTrees u us))) e f g =
    let n = eqb-true (suc (suc (suc (count_trees us)))) 2 e in absurd (omega (arith, n))
nth (MoreTrees v (MoreTrees _ us)) e f g = absurd (true≢false (sym f))

lag : (ts : Trees) → (nat_le 1 (count_trees ts) && nat_le (count_trees ts) 3) ≡ true
    → (passes_at 1 is_number ts && passes_at 2 judged.is_literal ts) ≡ true → is_form functions.Lag (These ts) ≡ true
lag NoTrees e f = absurd (true≢false (sym e))
lag (MoreTrees v NoTrees) e f = refl
lag (MoreTrees v (MoreTrees (Numeral n) NoTrees)) e f = refl
lag (MoreTrees v (MoreTrees (Numeral n) (MoreTrees d NoTrees))) e f = f
lag (MoreTrees v (MoreTrees (Numeral n) (MoreTrees d (MoreTrees x xs)))) e f =
    let count = suc (suc (suc (suc (count_trees xs)))) in
    let most = leb-true count 3 (and_parts _ _ e).1 in absurd (omega (arith, most))
lag (MoreTrees v (MoreTrees _ us)) e f = absurd (true≢false (sym f))

lead_as_lag : (given : Given) → is_form functions.Lag given ≡ is_form functions.Lead given
lead_as_lag (These (MoreTrees v (MoreTrees (Numeral n) (MoreTrees d (MoreTrees x xs))))) = refl
lead_as_lag _ = refl

these : (f : Function) (ts : Trees) → is_well_given (Some f) (These ts) ≡ true → counts_some (Some f) (These ts) ≡ true
    → is_form f (These ts) ≡ true
these functions.RowNumber ts w c =
    ap (λ (us : Trees). is_form functions.RowNumber (These us)) (no_args ts (and_parts _ _ w).0)
these functions.Rank ts w c = ap (λ (us : Trees). is_form functions.Rank (These us)) (no_args ts (and_parts _ _ w).0)
these functions.DenseRank ts w c =
    ap (λ (us : Trees). is_form functions.DenseRank (These us)) (no_args ts (and_parts _ _ w).0)
these functions.Ntile ts w c = let p = and_parts _ _ w in tiles ts p.0 p.1 c
these functions.Lag ts w c =
    let p = and_parts _ _ w in lag ts p.0 p.1
these functions.Lead ts w c =
    let p = and_parts _ _ w in sym (lead_as_lag (These ts)) ∙ lag ts p.0 p.1
these functions.FirstValue ts w c = one_arg functions.FirstValue ts (λ t. refl) (and_parts _ _ w).0
these functions.LastValue ts w c = one_arg functions.LastValue ts (λ t. refl) (and_parts _ _ w).0
these functions.NthValue ts w c = let p = and_parts _ _ w in nth ts p.0 p.1 c
these functions.Count ts w c = one_arg functions.Count ts (λ t. refl) (and_parts _ _ w).0
these functions.Sum ts w c = one_arg functions.Sum ts (λ t. refl) (and_parts _ _ w).0
these functions.Min ts w c = one_arg functions.Min ts (λ t. refl) (and_parts _ _ w).0
these functions.Max ts w c = one_arg functions.Max ts (λ t. refl) (and_parts _ _ w).0

all_rows : (f : Function) → judged.is_count f ≡ true → is_form f Everything ≡ true
all_rows functions.Count e = refl
all_rows _ e = absurd (true≢false (sym e))

aggregate_filtered : (f : Function) (t : Tree) → is_aggregate f ≡ true → is_filtered f (FilteredBy t) ≡ true
aggregate_filtered functions.Count t e = refl
aggregate_filtered functions.Sum t e = refl
aggregate_filtered functions.Min t e = refl
aggregate_filtered functions.Max t e = refl
aggregate_filtered _ t e = absurd (true≢false (sym e))

abbrev judged_filter : Option Function → Filter → Bool
judged_filter x Unfiltered = false
judged_filter x (FilteredBy t) = not (judged.is_aggregate_of x)

filtered : (f : Function) (filter : Filter) → judged_filter (Some f) filter ≡ false → is_filtered f filter ≡ true
filtered f Unfiltered e = refl
filtered f (FilteredBy t) e = aggregate_filtered f t (not-false _ e)

known : (x : Option Function) (given : Given) (filter : Filter) → is_well_given x given ≡ true → counts_some x given ≡ true
    → judged_filter x filter ≡ false → is_known_call x given filter ≡ true
known x (Columns ts) filter w c e = w
known None Everything filter w c e = absurd (true≢false (sym w))
known None (These ts) filter w c e = absurd (true≢false (sym w))
known (Some f) Everything filter w c e = and_from _ _ (all_rows f w) (filtered f filter e)
known (Some f) (These ts) filter w c e = and_from _ _ (these f ts w c) (filtered f filter e)

call_known : (name : List ℕ) (given : Given) (filter : Filter) (reach : Reach) → is_bad_call (Invoked name given filter reach) ≡ false
    → is_zeroth (Invoked name given filter reach) ≡ false → is_bad_filter (Invoked name given filter reach) ≡ false
    → is_known_call (function_of name) given filter ≡ true
call_known name given Unfiltered reach a b c =
    known (function_of name) given Unfiltered (not-false _ a) (not-false _ b) refl
call_known name given (FilteredBy t) reach a b c =
    known (function_of name) given (FilteredBy t) (not-false _ a) (not-false _ b) c

-- windows

no_partition : (ts : Trees) → windows.has_trees ts ≡ false → are_none ts ≡ true
no_partition NoTrees e = refl
no_partition (MoreTrees t ts) e = absurd (true≢false e)

no_order : (ks : Keys) → windows.has_keys ks ≡ false → is_none ks ≡ true
no_order NoKeys e = refl
no_order (MoreKeys t descending nulls more) e = absurd (true≢false e)

one_order : (ks copied : Keys) → (windows.has_keys ks && windows.has_keys copied) ≡ false
    → (if is_none ks then true else is_none copied) ≡ true
one_order NoKeys copied e = refl
one_order (MoreKeys t descending nulls more) copied e = no_order copied e

copied_well : (x : Option Expanded) (ts : Trees) (ks : Keys) → is_some x ≡ true
    → (windows.has_trees ts || ((windows.has_keys ks && windows.has_keys (or_none x).order) || is_some (or_none x).frame)) ≡ false
    → copies x ts ks ≡ true
copied_well None ts ks s e = absurd (true≢false (sym s))
copied_well (Some w) ts ks s e =
    let p = or_parts _ _ e in
    let q = or_parts _ _ p.1 in
    and_from _ _ (no_partition ts p.0)
    (and_from _ _ (ap not q.1) (one_order ks w.order q.0))

window_known : (ws : List NamedWindow) (reach : Reach) → is_over_unknown ws reach ≡ false → is_over_bad_copy ws reach ≡ false
    → is_known_window ws reach ≡ true
window_known ws ItsGroup a b = refl
window_known ws (ThatWindow name) a b = not-false _ a
window_known ws (OwnWindow None ts ks frame) a b = refl
window_known ws (OwnWindow (Some name) ts ks frame) a b =
    copied_well (window_named ws name) ts ks (not-false _ a) b

-- an expression by itself

abbrev is_undenoted : Origin → List NamedWindow → Tree → Bool
is_undenoted o ws = some_of (is_misqualified o.alias)
    (is_missing o.columns ∷ is_ambiguous o.columns ∷ is_bad_call ∷ is_zeroth ∷ is_bad_filter ∷ reach_is (is_over_unknown ws)
    ∷ reach_is (is_over_bad_copy ws) ∷ [])

abbrev Eight : Origin → List NamedWindow → Tree → Type 0
Eight o ws n =
    AreFalse (is_misqualified o.alias n) (is_missing o.columns n ∷ is_ambiguous o.columns n ∷ is_bad_call n ∷ is_zeroth n
    ∷ is_bad_filter n ∷ reach_is (is_over_unknown ws) n ∷ reach_is (is_over_bad_copy ws) n ∷ [])

eight : (o : Origin) (ws : List NamedWindow) (n : Tree) → is_undenoted o ws n ≡ false → Eight o ws n
eight o ws n e =
    are_false (is_misqualified o.alias n) (is_missing o.columns n ∷ is_ambiguous o.columns n ∷ is_bad_call n ∷ is_zeroth n
    ∷ is_bad_filter n ∷ reach_is (is_over_unknown ws) n ∷ reach_is (is_over_bad_copy ws) n ∷ []) e

denoted : (o : Origin) (ws : List NamedWindow) → Says (is_undenoted o ws) (Denotes o ws)
denoted o ws (Field q name) e = let k = eight o ws (Field q name) e in column o q name k.0 k.1.0 k.1.1.0
denoted o ws (Invoked name given filter reach) e =
    let k = (eight o ws (Invoked name given filter reach) e).1.1.1 in let over = k.1.1.1 in
    (call_known name given filter reach k.0 k.1.0 k.1.1.0, window_known ws reach over.0 over.1)
denoted o ws _ e = tt

groups_denoted : (o : Origin) (ts : List Tree) → list_any (is_misqualified o.alias) ts ≡ false → list_any (is_missing o.columns) ts ≡ false
    → list_any (is_ambiguous o.columns) ts ≡ false → InList (DenotesGroup o) ts
groups_denoted o [] a b c = tt
groups_denoted o (t ∷ ts) a b c =
    let p = or_parts _ _ a in
    let q = or_parts _ _ b in
    let r = or_parts _ _ c in
    (here t p.0 q.0 r.0, groups_denoted o ts p.1 q.1 r.1)
  where
    here : (u : Tree) → is_misqualified o.alias u ≡ false → is_missing o.columns u ≡ false → is_ambiguous o.columns u ≡ false
        → DenotesGroup o u
    here (Field q name) x y z = column o q name x y z
    here _ x y z = tt

-- WINDOW entries

pub record Longer (earlier all : List NamedWindow) : Type 0 where
  pub more : List NamedWindow
  pub is : all ≡ earlier ++ more

longer : (earlier : List NamedWindow) (es : List EntryTree) → Longer earlier (expand_all earlier es)
longer earlier [] = record { more = []; is = sym (append-nil earlier) }
longer earlier (e ∷ es) =
    let x : NamedWindow = record { name = e.name; window = expand_tree earlier e.window } in
    let r = longer (earlier ++ x ∷ []) es in record { more = x ∷ r.more; is = r.is ∙ append_assoc earlier (x ∷ []) r.more }

taken : (earlier : List NamedWindow) (es : List EntryTree) → take (length earlier) (expand_all earlier es) ≡ earlier
taken earlier es = let r = longer earlier es in ap (take (length earlier)) r.is ∙ take_at earlier r.more (length earlier) refl

length_next : (ws : List NamedWindow) (x : NamedWindow) → suc (length ws) ≡ length (ws ++ x ∷ [])
length_next [] x = refl
length_next (w ∷ ws) x = ap suc (length_next ws x)

named_behind : (ws : List NamedWindow) (x : NamedWindow) (name : List ℕ)
    → is_some (window_named (ws ++ x ∷ []) name) ≡ (is_some (window_named ws name) || bytes_eq x.name name)
named_behind [] x name = go (bytes_eq x.name name)
  where
    go : (b : Bool) → is_some (if b then Some x.window else None) ≡ b
    go true = refl
    go false = refl
named_behind (w ∷ ws) x name = go (bytes_eq w.name name) (named_behind ws x name)
  where
    go : (b : Bool) → is_some (window_named (ws ++ x ∷ []) name) ≡ (is_some (window_named ws name) || bytes_eq x.name name)
        → is_some (if b then Some w.window else window_named (ws ++ x ∷ []) name)
        ≡ (is_some (if b then Some w.window else window_named ws name) || bytes_eq x.name name)
    go true rest = refl
    go false rest = rest

-- no entry has the name of one of these
abbrev AreFresh : List NamedWindow → List EntryTree → Type 0
AreFresh ws [] = Unit {0}
AreFresh ws (e ∷ es) = (is_some (window_named ws e.name) ≡ false) × AreFresh ws es

still_fresh : (ws : List NamedWindow) (x : NamedWindow) (es : List EntryTree) → AreFresh ws es
    → list_any (windows.has_entry_name x.name) es ≡ false → AreFresh (ws ++ x ∷ []) es
still_fresh ws x [] a e = tt
still_fresh ws x (y ∷ es) a e =
    let p = or_parts _ _ e in
    (named_behind ws x y.name ∙ or_from _ _ a.0 (name_sym x.name y.name ∙ p.0), still_fresh ws x es a.1 p.1)

all_fresh : (es : List EntryTree) → AreFresh [] es
all_fresh [] = tt
all_fresh (e ∷ es) = (refl, all_fresh es)

entries_known : (all : List NamedWindow) (place : ℕ) (earlier : List NamedWindow) (es : List EntryTree) → place ≡ length earlier
    → all ≡ expand_all earlier es → AreFresh earlier es → breaks_entries es ≡ false
    → some_entry_after all place copies_unknown es ≡ false → some_entry_after all place copies_badly es ≡ false → AreEntries earlier es
entries_known all place earlier [] p a fresh apart unknown badly = tt
entries_known all place earlier (e ∷ es) p a fresh apart unknown badly =
    let x : NamedWindow = record { name = e.name; window = expand_tree earlier e.window } in
    let here = ap₂ (λ (n : ℕ) (ws : List NamedWindow). take n ws) p a ∙ taken earlier (e ∷ es) in
    let u = or_parts _ _ unknown in
    let b = or_parts _ _ badly in
    let n = or_parts _ _ apart in (
      fresh.0,
      window_known earlier (own_window e.window) (ap (λ (ws : List NamedWindow). copies_unknown ws e.window) (sym here)
          ∙ u.0) (ap (λ (ws : List NamedWindow). copies_badly ws e.window) (sym here) ∙ b.0),
      entries_known all (suc place) (earlier ++ x ∷ []) es (ap suc p ∙ length_next earlier x) a
          (still_fresh earlier x es fresh.1 n.0) n.1 u.1 b.1,
    )

-- keys

columns_length : (place : ℕ) (cs : List Titled) → length (columns_from place cs) ≡ length cs
columns_length place [] = refl
columns_length place (c ∷ cs) = ap suc (columns_length (suc place) cs)

pub items_length : (cs : List Titled) (is : List ItemTree) → length (written_out cs is) ≡ count_items cs is
items_length cs [] = refl
items_length cs (AllColumns ∷ is) =
    length-append (columns_from 0 cs) (written_out cs is) ∙ ap₂ (λ (m n : ℕ). m + n) (columns_length 0 cs) (items_length cs is)
items_length cs (Computed t alias ∷ is) = ap suc (items_length cs is)

in_range : (count n : ℕ) → (nat_lt n 1 || nat_lt count n) ≡ false → (nat_lt 0 n && nat_le n count) ≡ true
in_range count n e =
    let p = or_parts _ _ e in
    let low : 1 ≤ n = ltb-false n 1 p.0 in let high : n ≤ count = ltb-false count n p.1 in
    and_from _ _ (lt-ltb 0 n (omega (arith, low))) (le-leb n count high)

abbrev row_with : List Titled → Option (List ℕ) → List Tree → Layout
row_with cs grouping calls = record { columns = cs; grouping = grouping; calls = calls }

at_column : (cs : List Titled) (g : Option (List ℕ)) (calls : List Tree) (p : ℕ) (t : Tree) → is_column_at cs p t ≡ true
    → resolved (row_with cs g calls) t ≡ At (cell_of (row_with cs g calls) p)
at_column cs g calls p (Field q name) e = ap (λ (n : ℕ). At (cell_of (row_with cs g calls) n)) (eqb-true (place_named cs name) p e)
at_column cs g calls p _ e = absurd (true≢false (sym e))

one_formula : (cs : List Titled) (g : Option (List ℕ)) (calls : List Tree) (s u : Shown) → same_shown cs s u ≡ true
    → shown_formula (row_with cs g calls) u ≡ shown_formula (row_with cs g calls) s
one_formula cs g calls (Placed p) (Placed q) e = ap (λ (n : ℕ). At (cell_of (row_with cs g calls) n)) (sym (eqb-true p q e))
one_formula cs g calls (Placed p) (Spelled t) e = at_column cs g calls p t e
one_formula cs g calls (Spelled t) (Placed p) e = sym (at_column cs g calls p t e)
one_formula cs g calls (Spelled t) (Spelled u) e = sym (equal.values (row_with cs g calls) t u e)

-- the first item of a name
first_is : (name : List ℕ) (otherwise s : Shown) (is : List ShownItem) → first_called name is ≡ Some s → called_or otherwise name is ≡ s
first_is name otherwise s [] e = cc
first_is name otherwise s (i ∷ is) e = go (bytes_eq i.name name) e (first_is name otherwise s is)
  where
    go : (b : Bool) → (if b then Some i.shown else first_called name is) ≡ Some s
        → (first_called name is ≡ Some s → called_or otherwise name is ≡ s) → (if b then i.shown else called_or otherwise name is) ≡ s
    go true f rest = cc
    go false f rest = rest f

some_first : (name : List ℕ) (is : List ShownItem) → list_any (is_called name) is ≡ true → is_some (first_called name is) ≡ true
some_first name [] e = absurd (true≢false (sym e))
some_first name (i ∷ is) e = go (bytes_eq i.name name) e (some_first name is)
  where
    go : (b : Bool) → (b || list_any (is_called name) is) ≡ true
        → (list_any (is_called name) is ≡ true → is_some (first_called name is) ≡ true)
        → is_some (if b then Some i.shown else first_called name is) ≡ true
    go true f rest = refl
    go false f rest = rest f

all_alike : (cs : List Titled) (g : Option (List ℕ)) (calls : List Tree) (name : List ℕ) (s : Shown) (is : List ShownItem)
    → list_any (is_unlike cs name (Some s)) is ≡ false → AreOneValue (row_with cs g calls) name (shown_formula (row_with cs g calls) s) is
all_alike cs g calls name s [] e = tt
all_alike cs g calls name s (i ∷ is) e =
    let p = or_parts _ _ e in
    (λ called. one_formula cs g calls s i.shown (not-false _ (and_rest _ _ called p.0)), all_alike cs g calls name s is p.1)

one_value : (cs : List Titled) (g : Option (List ℕ)) (calls : List Tree) (name : List ℕ) (is : List ShownItem)
    → list_any (is_called name) is ≡ true → list_any (is_unlike cs name (first_called name is)) is ≡ false
    → AreOneValue (row_with cs g calls) name (shown_formula (row_with cs g calls) (key_shown is (Field None name))) is
one_value cs g calls name is called e = go (first_called name is) refl (some_first name is called) e
  where
    go : (x : Option Shown) → first_called name is ≡ x → is_some x ≡ true → list_any (is_unlike cs name x) is ≡ false
        → AreOneValue (row_with cs g calls) name (shown_formula (row_with cs g calls) (called_or (Spelled (Field None name)) name is)) is
    go None f s h = absurd (true≢false (sym s))
    go (Some x) f s h =
        subst (λ (y : Shown). AreOneValue (row_with cs g calls) name (shown_formula (row_with cs g calls) y) is)
        (sym (first_is name (Spelled (Field None name)) x is f)) (all_alike cs g calls name x is h)

constant_alike : (t : Tree) → is_constant t ≡ is_behind_signs t
constant_alike (Signed minus t) = constant_alike t
constant_alike NullWord = refl
constant_alike (Numeral n) = refl
constant_alike (Quoted text) = refl
constant_alike _ = refl

key_named : (o : Origin) (ws : List NamedWindow) (is : List ItemTree) (name : List ℕ) (b : Bool)
    → list_any (is_called name) (written_out o.columns is) ≡ b
    → is_ambiguous_key o.columns (written_out o.columns is) (Field None name) ≡ false
    → (not (is_output o.columns is (Field None name)) && some_node (finds (is_undenoted o ws)) (Field None name)) ≡ false
    → DenotesName o (written_out o.columns is) name b
key_named o ws is name true called clear e = λ g calls. one_value o.columns g calls name (written_out o.columns is) called clear
key_named o ws is name false called clear e =
    let out = sym (items_called o.columns name is) ∙ called in
    let k = eight o ws (Field None name) (open_find (is_undenoted o ws (Field None name)) false (and_rest _ _ (ap not out) e)).0 in
    column o None name k.0 k.1.0 k.1.1.0

key_denoted : (o : Origin) (ws : List NamedWindow) (is : List ItemTree) (t : Tree) → is_bad_place (count_items o.columns is) t ≡ false
    → is_ambiguous_key o.columns (written_out o.columns is) t ≡ false
    → (not (is_output o.columns is t) && some_node (finds (is_undenoted o ws)) t) ≡ false → DenotesKey o ws (written_out o.columns is) t
key_denoted o ws is (Numeral n) p a e =
    ap (λ (c : ℕ). nat_lt 0 n && nat_le n c) (items_length o.columns is) ∙ in_range (count_items o.columns is) n p
key_denoted o ws is (Field None name) p a e = key_named o ws is name (list_any (is_called name) (written_out o.columns is)) refl a e
key_denoted o ws is (Quoted text) p a e = absurd (true≢false p)
key_denoted o ws is NullWord p a e = absurd (true≢false p)
key_denoted o ws is (Signed minus t) p a e =
    (constant_alike t ∙ p, throughout (is_undenoted o ws) (Denotes o ws) (denoted o ws) (Signed minus t) e)
key_denoted o ws is t p a e = (refl, throughout (is_undenoted o ws) (Denotes o ws) (denoted o ws) t e)

order_denoted : (o : Origin) (ws : List NamedWindow) (is : List ItemTree) (ks : List KeyTree)
    → list_any (λ (k : KeyTree). is_bad_place (count_items o.columns is) k.expression) ks ≡ false
    → list_any (λ (k : KeyTree). is_ambiguous_key o.columns (written_out o.columns is) k.expression) ks ≡ false
    → some_sort o.columns is (finds (is_undenoted o ws)) ks ≡ false → DenotesOrder o ws (written_out o.columns is) ks
order_denoted o ws is [] p a e = tt
order_denoted o ws is (k ∷ ks) p a e =
    let x = or_parts _ _ p in
    let y = or_parts _ _ a in
    let z = or_parts _ _ e in
    (key_denoted o ws is k.expression x.0 y.0 z.0, order_denoted o ws is ks x.1 y.1 z.1)

-- the rules

clauses_denoted : (d : Declaration) (o : Origin) (c : Clauses) (s : SourceTree) → rules_judged d.table o c s ≡ None
    → DenotesClauses o (windows_of c) c × (names_other_table d.table s ≡ false)
clauses_denoted d o c s e =
    let ws = windows_of c in let cs = o.columns in
    let k = rules_kept d.table o.alias cs c s e in
    let tables = are_false (names_other_table d.table s) (some_anywhere cs c (finds (is_misqualified o.alias)) ∷ list_any
    (is_misqualified o.alias) (all_columns c.grouping) ∷ []) k.tables in
    let missing = or_parts _ _ k.columns in
    let ambiguous = are_false (some_anywhere cs c (finds (is_ambiguous cs)))
    (list_any (is_ambiguous cs) (all_columns c.grouping) ∷ list_any (λ (x : KeyTree). is_ambiguous_key cs
    (written_out cs c.items) x.expression) c.order ∷ []) k.ambiguity in
    let unknown = or_parts _ _ k.windows in
    let badly = or_parts _ _ k.copies in
    let r = is_undenoted o ws in
    let all = all_nowhere cs c (is_misqualified o.alias)
    (is_missing cs ∷ is_ambiguous cs ∷ is_bad_call ∷ is_zeroth ∷ is_bad_filter ∷ reach_is (is_over_unknown ws) ∷ reach_is
    (is_over_bad_copy ws) ∷ [])
    (tables.1.0, (missing.0, (ambiguous.0, (k.calls, (k.zeroths, (k.filters, (unknown.1, badly.1))))))) in (
      record {
        items = in_items r (Denotes o ws) (denoted o ws) c.items all.shown.items;
        condition = in_option r (Denotes o ws) (denoted o ws) c.condition all.condition;
        grouping = groups_denoted o (all_columns c.grouping) tables.1.1 missing.1 ambiguous.1.0;
        having = in_option r (Denotes o ws) (denoted o ws) c.having all.shown.having;
        windows = in_entries r (Denotes o ws) (denoted o ws) c.windows all.shown.entries;
        entries = entries_known ws 0 [] c.windows refl refl (all_fresh c.windows) k.entries unknown.0 badly.0;
        order = order_denoted o ws c.items c.order k.places ambiguous.1.1 all.shown.order;
      },
      tables.0,
    )

mutual
  query_denoted : (d : Declaration) (q : QueryTree) → least d q ≡ None → DenotesQuery d q
  query_denoted d (Selected c s) e =
      let n = neither (least_source d s) (rules_judged d.table (origin_of d s) c s) e in
      let k = clauses_denoted d (origin_of d s) c s n.1 in
      (k.0, source_denoted d s n.0 k.1)

  source_denoted : (d : Declaration) (s : SourceTree) → least_source d s ≡ None → names_other_table d.table s ≡ false → DenotesSource d s
  source_denoted d (FromTable name alias) e f = not-false _ f
  source_denoted d (FromQuery q alias) e f = query_denoted d q (neither (least d q) (sets_rule q) e).0

pub accepted_is_scoped : AcceptedIsScoped
accepted_is_scoped d q e = query_denoted d q (neither (least d q) (or_else (depth_rule q) (sets_rule q)) e).0
