-- The row of windows, items and keys of a SELECT that breaks no rule, and what looks at its clauses find.
use Rattle.std.proofs.Common.{◌≡◌, Bool, true, false, not, ◌&&◌, ◌||◌, ℕ, zero, suc, ◌+◌, List, [], ◌∷◌, ◌++◌, length}
use Rattle.std.proofs.Common.{map, Option, Some, None, is_some, refl, sym, ap, ◌∙◌, append_assoc, true≢false}
use Rattle.std.specs.Prelude.{if◌then◌else◌}
use Rattle.std.specs.List.{list_all, list_any}
use Rattle.std.proofs.lemmas.Bool.{and_from, or_parts, or_right}
use Rattle.std.proofs.lemmas.List.Folds.{list_any-append}
use Rattle.wquery.specs.GroupElements.{all_columns}
use Rattle.wquery.specs.QueryTree.{Clauses}
use Rattle.wquery.specs.Tree.{Tree, Field, Invoked, Given, Columns, Filter, Reach, ItsGroup, ThatWindow, OwnWindow}
use Rattle.wscope.specs.Called.{is_star, names}
use Rattle.wscope.specs.declared.data_type.DataType.{DataType}
use Rattle.wscope.specs.declared.look.Look.{Look}
use Rattle.wscope.specs.declared.look.Look.TheVariants.{Found, Closed, Below}
use Rattle.wscope.specs.Finding.{finds}
use Rattle.wscope.specs.Scope.{has_name, some_entry, some_item, some_option, some_shown, some_sort}
use Rattle.wscope.specs.Seeking.{found_or, some_below, some_node}
use Rattle.wscope.specs.Types.{Titled, place_named, type_named, type_of}
use Rattle.wnames.specs.Groups as judged
use Rattle.wnames.specs.Groups.{is_group_call, is_ungrouped_column, is_window_call, names_ungrouped, sees_ungrouped}
use Rattle.wdistinct.specs.declared.distinct_calls.CallKind.{CallKind}
use Rattle.wdistinct.specs.declared.distinct_calls.CallKind.TheVariants.{Grouped, Windowed}
use Rattle.wdistinct.specs.Calls.{group_calls, is_call_of, nodes_below, window_calls}
use Rattle.wdistinct.specs.Places.{place_of_same}
use Rattle.wnodes.specs.Sameness.{is_same}
use Rattle.wbinding.specs.Resolving.{Layout, cell_in, source_row, width}
use Rattle.wresolve.specs.Selecting as made
use Rattle.wtyped.specs.Laws.{types_of}
use Rattle.wtyped.specs.Typing.{type_at}
use Rattle.wtyped.proofs.Alike.{before, behind, is_listed, listed_type}
use Rattle.wtyped.proofs.Columns.{cells, cells_length, group_cell, group_places, plain_cell}
use Rattle.wtyped.proofs.Formulas.{cell_typed, is_typed_cell, sees_misfit, typed_cell}
use Rattle.wtyped.proofs.Listings.{group_kept, group_listed, sees_window_unlisted, window_kept, window_listed}
use Rattle.wtyped.proofs.Looks as looks
use Rattle.wtyped.proofs.Looks.{group_look, sees_shown}
use Rattle.wtyped.proofs.Rules.{is_bad}
use Rattle.wtyped.proofs.Rules as rules
use Rattle.wtyped.proofs.Tests.{and_rest}
use Rattle.wtyped.proofs.Walks.{Covers, Kept, Nowhere, Shut, Unseen, either_test, entries, items, listed_parts}
use Rattle.wtyped.proofs.Walks.{open_find, option, parts_below, sorts, unseen, unseen_in}
use Rattle.std.proofs.lemmas.List.{append-nil, length-map, map-append}

-- the row, where the query is grouped or not
abbrev pub row_of : List Titled → Clauses → Bool → Layout
row_of cs c b = record {
  columns = cs;
  grouping = if b then Some (made.group_columns cs c) else None;
  calls =
      group_calls c ++ window_calls c;
}

-- the types of the columns that it has, of these and what aggregates answer, and of all its cells
abbrev pub first_cells : List Titled → Clauses → Bool → List DataType
first_cells cs c b = if b then cells (group_places cs c.grouping) (types_of cs) else types_of cs

abbrev pub group_cells : List Titled → Clauses → Bool → List DataType
group_cells cs c b = first_cells cs c b ++ map (type_of cs) (group_calls c)

abbrev pub all_cells : List Titled → Clauses → Bool → List DataType
all_cells cs c b = group_cells cs c b ++ map (type_of cs) (window_calls c)

first_length : (cs : List Titled) (c : Clauses) (b : Bool) → length (first_cells cs c b) ≡ width (row_of cs c b)
first_length cs c true = cells_length (group_places cs c.grouping) (types_of cs)
first_length cs c false = length-map cs (λ (t : Titled). t.type)

-- columns

abbrev pub IsNamed : List Titled → Clauses → Bool → List ℕ → Type 0
IsNamed cs c true name = list_any (names name) (all_columns c.grouping) ≡ true
IsNamed cs c false name = Unit {0}

pub column_cell : (cs : List Titled) (c : Clauses) (b : Bool) (more : List DataType) (name : List ℕ) → list_any (has_name name) cs ≡ true
    → IsNamed cs c b name
    → type_at (cell_in (row_of cs c b).grouping (place_named cs name)) (first_cells cs c b ++ more) ≡ Some (type_named cs name)
column_cell cs c true more name e g = group_cell cs c.grouping name more g e
column_cell cs c false more name e g = plain_cell cs name more e

pub column_typed : (cs : List Titled) (c : Clauses) (b : Bool) (more : List DataType) (q : Option (List ℕ)) (name : List ℕ)
    → list_any (has_name name) cs ≡ true → IsNamed cs c b name
    → is_typed_cell (row_of cs c b) (first_cells cs c b ++ more) (Field q name) ≡ true
column_typed cs c b more q name e g =
    typed_cell (row_of cs c b) (first_cells cs c b ++ more) (Field q name) (column_cell cs c b more name e g)

pub source_typed : (cs : List Titled) (q : Option (List ℕ)) (name : List ℕ) → list_any (has_name name) cs ≡ true
    → is_typed_cell (source_row cs) (types_of cs) (Field q name) ≡ true
source_typed cs q name e =
    typed_cell (source_row cs) (types_of cs) (Field q name) (ap (type_at (place_named cs name))
    (sym (append-nil (types_of cs))) ∙ plain_cell cs name [] e)

-- calls

first_same : (gs ws : List Tree) (t : Tree) → is_listed gs t ≡ true → place_of_same (gs ++ ws) t ≡ place_of_same gs t
first_same [] ws t e = absurd (true≢false (sym e))
first_same (g ∷ gs) ws t e = go (is_same g t) (λ f. first_same gs ws t f) e
  where
    go : (b : Bool) → (is_listed gs t ≡ true → place_of_same (gs ++ ws) t ≡ place_of_same gs t) → (b || is_listed gs t) ≡ true
        → (if b then zero else suc (place_of_same (gs ++ ws) t)) ≡ (if b then zero else suc (place_of_same gs t))
    go true rest f = refl
    go false rest f = ap suc (rest f)

-- the place behind the columns
at_width : (cs : List Titled) (c : Clauses) (b : Bool) (us : List DataType) (k : ℕ)
    → type_at (width (row_of cs c b) + k) (first_cells cs c b ++ us) ≡ type_at k us
at_width cs c b us k = ap (λ n. type_at (n + k) (first_cells cs c b ++ us)) (sym (first_length cs c b)) ∙ behind (first_cells cs c b) us k

group_call_cell : (cs : List Titled) (c : Clauses) (b : Bool) (t : Tree) → is_listed (group_calls c) t ≡ true
    → type_at (width (row_of cs c b) + place_of_same (group_calls c ++ window_calls c) t) (group_cells cs c b) ≡ Some (type_of cs t)
group_call_cell cs c b t e =
    at_width cs c b (map (type_of cs) (group_calls c)) (place_of_same (group_calls c ++ window_calls c) t)
    ∙ ap (λ n. type_at n (map (type_of cs) (group_calls c))) (first_same (group_calls c) (window_calls c) t e)
    ∙ ap (type_at (place_of_same (group_calls c) t)) (sym (append-nil (map (type_of cs) (group_calls c))))
    ∙ listed_type cs (group_calls c) t [] e

window_call_cell : (cs : List Titled) (c : Clauses) (b : Bool) (t : Tree) → is_listed (window_calls c) t ≡ true
    → type_at (width (row_of cs c b) + place_of_same (group_calls c ++ window_calls c) t) (all_cells cs c b) ≡ Some (type_of cs t)
window_call_cell cs c b t e =
    let place = place_of_same (group_calls c ++ window_calls c) t in
    ap (type_at (width (row_of cs c b) + place)) (append_assoc (first_cells cs c b) (map (type_of cs) (group_calls c))
    (map (type_of cs) (window_calls c)) ∙ ap (λ ts. first_cells cs c b ++ ts)
    (sym (map-append (type_of cs) (group_calls c) (window_calls c))))
    ∙ at_width cs c b (map (type_of cs) (group_calls c ++ window_calls c)) place
    ∙ ap (type_at place) (sym (append-nil (map (type_of cs) (group_calls c ++ window_calls c))))
    ∙ listed_type cs (group_calls c ++ window_calls c) t [] (list_any-append (λ (u : Tree). is_same u t) (group_calls c)
    (window_calls c) ∙ or_right _ _ e)

pub group_call_typed : (cs : List Titled) (c : Clauses) (b : Bool) (name : List ℕ) (given : Given) (filter : Filter) (reach : Reach)
    → is_listed (group_calls c) (Invoked name given filter reach) ≡ true
    → is_typed_cell (row_of cs c b) (group_cells cs c b) (Invoked name given filter reach) ≡ true
group_call_typed cs c b name given filter reach e =
    typed_cell (row_of cs c b) (group_cells cs c b) (Invoked name given filter reach)
    (group_call_cell cs c b (Invoked name given filter reach) e)

group_call_typed_too : (cs : List Titled) (c : Clauses) (b : Bool) (name : List ℕ) (given : Given) (filter : Filter) (reach : Reach)
    → is_listed (group_calls c) (Invoked name given filter reach) ≡ true
    → is_typed_cell (row_of cs c b) (all_cells cs c b) (Invoked name given filter reach) ≡ true
group_call_typed_too cs c b name given filter reach e =
    typed_cell (row_of cs c b) (all_cells cs c b) (Invoked name given filter reach)
    (before (group_cells cs c b) (map (type_of cs) (window_calls c)) _ _ (group_call_cell cs c b (Invoked name given filter reach) e))

window_call_typed : (cs : List Titled) (c : Clauses) (b : Bool) (name : List ℕ) (given : Given) (filter : Filter) (reach : Reach)
    → is_listed (window_calls c) (Invoked name given filter reach) ≡ true
    → is_typed_cell (row_of cs c b) (all_cells cs c b) (Invoked name given filter reach) ≡ true
window_call_typed cs c b name given filter reach e =
    typed_cell (row_of cs c b) (all_cells cs c b) (Invoked name given filter reach)
    (window_call_cell cs c b (Invoked name given filter reach) e)

-- a query that is made a grouped one is judged as one

found_here : (p : Tree → Bool) (n : Tree) → p n ≡ true → some_node (finds p) n ≡ false → ⊥
found_here p n is f = true≢false (sym (ap (λ (x : Bool). found_or (if x then Found else Below) (some_below (finds p) n)) is) ∙ f)

never : (s p K : Tree → Bool) → ((n : Tree) → s n ≡ true → p n ≡ true) → Kept s (finds p) K
never s p K h n sought e = absurd (found_here p n (h n sought) e)

open_finds : (s p K : Tree → Bool) → Shut s (finds p) K
open_finds s p K n out shut = absurd (looks.find_open (p n) shut)

is_grouped_call : (n : Tree) → is_call_of Grouped n ≡ true → is_group_call n ≡ true
is_grouped_call (Invoked name given filter reach) e = sym (looks.alike name given filter reach) ∙ e
is_grouped_call _ e = absurd (true≢false (sym e))

is_windowed_call : (n : Tree) → is_call_of Windowed n ≡ true → is_window_call n ≡ true
is_windowed_call (Invoked name given filter ItsGroup) e = absurd (true≢false (sym e))
is_windowed_call (Invoked name given filter (ThatWindow window)) e = refl
is_windowed_call (Invoked name given filter (OwnWindow copied partition order frame)) e = refl
is_windowed_call _ e = absurd (true≢false (sym e))

none_such : (ts : List Tree) → list_all (λ (t : Tree). false) ts ≡ true → judged.has_some ts ≡ false
none_such [] e = refl
none_such (t ∷ ts) e = absurd (true≢false (sym e))

no_group_call : (cs : List Titled) (c : Clauses) → some_shown cs c (finds is_group_call) ≡ false → is_some c.having ≡ false
    → judged.has_some (group_calls c) ≡ false
no_group_call cs c e h =
    none_such (group_calls c) (group_kept cs c (finds is_group_call) (λ n. false) (never (is_call_of Grouped) is_group_call
    (λ n. false) is_grouped_call) (open_finds (is_call_of Grouped) is_group_call (λ n. false))
    (unseen_in cs c (finds is_group_call) e (no_option c.having h)))
  where
    no_option : (t : Option Tree) → is_some t ≡ false → some_option (finds is_group_call) t ≡ false
    no_option None f = refl
    no_option (Some t) f = absurd (true≢false f)

three_ways : (x y z w : Bool) → (w ≡ false → y ≡ false → z ≡ false) → (x || (y || z)) ≡ true → (x || (y || w)) ≡ true
three_ways true y z w h e = refl
three_ways false true z w h e = refl
three_ways false false z true h e = refl
three_ways false false z false h e = absurd (true≢false (sym e ∙ h refl refl))

judged_grouped : (cs : List Titled) (c : Clauses) → made.is_grouped c (group_calls c) ≡ true → judged.is_grouped cs c ≡ true
judged_grouped cs c e =
    three_ways (judged.has_some c.grouping) (is_some c.having) (judged.has_some (group_calls c))
    (some_shown cs c (finds is_group_call)) (no_group_call cs c) e

pub is_named_so : (cs : List Titled) (c : Clauses) → rules.Kept cs c → made.is_grouped c (group_calls c) ≡ true
    → names_ungrouped cs c ≡ false
is_named_so cs c k e = and_rest _ _ (judged_grouped cs c e) k.grouping

-- what looks at the clauses find

-- what a grouped query names
names_grouped : (cs : List Titled) (c : Clauses) → rules.Kept cs c → made.is_grouped c (group_calls c) ≡ true
    → Unseen cs c (sees_ungrouped (all_columns c.grouping))
    × ((list_any is_star c.items && list_any (is_ungrouped_column (all_columns c.grouping)) cs) ≡ false)
names_grouped cs c k e =
    let g = all_columns c.grouping in let r = sees_ungrouped g in
    let all = or_parts _ _ (is_named_so cs c k e) in
    let rest = or_parts _ _ all.1 in
    (unseen_in cs c r all.0 rest.0, rest.1)

abbrev pub sees_row : List Titled → Clauses → Bool → Tree → Look
sees_row cs c b = sees_shown (row_of cs c b) (group_cells cs c b) (is_listed (group_calls c))

columns : (cs : List Titled) (c : Clauses) (b : Bool) → rules.Kept cs c → made.is_grouped c (group_calls c) ≡ b
    → Unseen cs c (sees_shown (row_of cs c b) (group_cells cs c b) (λ n. true))
columns cs c false k e =
    let more = map (type_of cs) (group_calls c) in
    unseen (looks.plain_shown (row_of cs c false) (group_cells cs c false) (λ q name there. column_typed cs c false more q
    name there tt)) k.bad.shown k.bad.shown
columns cs c true k e =
    let more = map (type_of cs) (group_calls c) in
    unseen (looks.group_shown (row_of cs c true) (group_cells cs c true) (all_columns c.grouping)
    (λ q name there named. column_typed cs c true more q name there named)) k.bad.shown (names_grouped cs c k e).0

abbrev pub Shown : List Titled → Clauses → Bool → Type 0
Shown cs c b = Unseen cs c (sees_row cs c b)

pub shown : (cs : List Titled) (c : Clauses) (b : Bool) → rules.Kept cs c → made.is_grouped c (group_calls c) ≡ b → Shown cs c b
shown cs c b k e =
    let l = row_of cs c b in let ts = group_cells cs c b in
    unseen (looks.shown_known l ts (is_listed (group_calls c))) (columns cs c b k e) (group_listed cs c)

-- what does not fit

still_typed : (cs : List Titled) (c : Clauses) (b : Bool) (q : Option (List ℕ)) (name : List ℕ)
    → is_typed_cell (row_of cs c b) (group_cells cs c b) (Field q name) ≡ true
    → is_typed_cell (row_of cs c b) (all_cells cs c b) (Field q name) ≡ true
still_typed cs c b q name e =
    typed_cell (row_of cs c b) (all_cells cs c b) (Field q name)
    (before (group_cells cs c b) (map (type_of cs) (window_calls c))
    (cell_in (row_of cs c b).grouping (place_named cs name)) (type_named cs name)
    (cell_typed (row_of cs c b) (group_cells cs c b) (Field q name) e))

whole : (cs : List Titled) (c : Clauses) (b : Bool)
    → Covers (sees_row cs c b) (sees_window_unlisted c) (sees_misfit (row_of cs c b) (all_cells cs c b))
whole cs c b =
    looks.misfit_shown (row_of cs c b) (group_cells cs c b) (all_cells cs c b) (is_listed (group_calls c))
    (is_listed (window_calls c)) (still_typed cs c b) (group_call_typed_too cs c b) (window_call_typed cs c b)

pub fit_items : (cs : List Titled) (c : Clauses) (b : Bool) → Shown cs c b
    → some_item (sees_misfit (row_of cs c b) (all_cells cs c b)) c.items ≡ false
fit_items cs c b s =
    items _ _ _ (whole cs c b) c.items s.items (window_listed cs c).items

pub fit_order : (cs : List Titled) (c : Clauses) (b : Bool) → Shown cs c b
    → some_sort cs c.items (sees_misfit (row_of cs c b) (all_cells cs c b)) c.order ≡ false
fit_order cs c b s =
    sorts cs c.items _ _ _ (whole cs c b) c.order s.order (window_listed cs c).order

pub inner : (cs : List Titled) (c : Clauses) (b : Bool)
    → Covers (sees_row cs c b) (finds is_window_call) (sees_misfit (row_of cs c b) (group_cells cs c b))
inner cs c b = looks.misfit_inner (row_of cs c b) (group_cells cs c b) (is_listed (group_calls c)) (group_call_typed cs c b)

pub fit_having : (cs : List Titled) (c : Clauses) (b : Bool) → rules.Kept cs c → Shown cs c b
    → some_option (sees_misfit (row_of cs c b) (group_cells cs c b)) c.having ≡ false
fit_having cs c b k s =
    option _ _ _ (inner cs c b) c.having s.having k.having_windows

pub fit_entries : (cs : List Titled) (c : Clauses) (b : Bool) → rules.Kept cs c → Shown cs c b
    → some_entry (sees_misfit (row_of cs c b) (group_cells cs c b)) c.windows ≡ false
fit_entries cs c b k s =
    entries _ _ _ (inner cs c b) c.windows s.entries k.entry_windows

pub source : (cs : List Titled) → Covers (finds (is_bad cs)) (finds looks.is_any_call) (sees_misfit (source_row cs) (types_of cs))
source cs = looks.misfit_source (source_row cs) (types_of cs) (source_typed cs)

pub no_calls : (t : Tree) → some_below (finds is_window_call) t ≡ false → some_below (finds is_group_call) t ≡ false
    → some_below (finds looks.is_any_call) t ≡ false
no_calls t e f = parts_below _ _ _ (either_test is_window_call is_group_call) t e f

pub fit_condition : (cs : List Titled) (c : Clauses) → rules.Kept cs c
    → some_option (sees_misfit (source_row cs) (types_of cs)) c.condition ≡ false
fit_condition cs c k =
    option _ _ _ (source cs) c.condition k.bad.condition (option _ _ _ (either_test is_window_call is_group_call)
    c.condition k.condition_windows k.condition_groups)

-- the calls that are listed

-- a call of a kind in which a look finds nothing
abbrev pub is_clear : CallKind → (Tree → Look) → Tree → Bool
is_clear kind w n = is_call_of kind n && not (some_node w n)

kept_clear : (kind : CallKind) (w : Tree → Look) → Kept (is_call_of kind) w (is_clear kind w)
kept_clear kind w n sought e = and_from _ _ sought (ap not e)

-- below an aggregate there is no call with OVER
group_shut : (b k : Bool) → group_look false b k ≡ Closed → ⊥
group_shut true k e = cc
group_shut false k e = cc

shut_not : (b k : Bool) → group_look true b k ≡ Closed → b ≡ false
shut_not true k e = cc
shut_not false k e = refl

shut_row : (cs : List Titled) (c : Clauses) (b : Bool) (K : Tree → Bool) → Shut (is_call_of Windowed) (sees_row cs c b) K
shut_row cs c b K (Invoked name given filter reach) out shut = go (is_group_call (Invoked name given filter reach)) refl shut
  where
    go : (g : Bool) → is_group_call (Invoked name given filter reach) ≡ g
        → group_look g (is_bad cs (Invoked name given filter reach)) (is_listed (group_calls c) (Invoked name given filter reach)) ≡ Closed
        → list_all K (nodes_below (is_call_of Windowed) (Invoked name given filter reach)) ≡ true
    go false is e =
        absurd (group_shut (is_bad cs (Invoked name given filter reach)) (is_listed (group_calls c) (Invoked name given filter reach)) e)
    go true is e =
        listed_parts (is_call_of Windowed) (finds is_window_call) K (never (is_call_of Windowed) is_window_call K
        is_windowed_call) (open_finds (is_call_of Windowed) is_window_call K) (Invoked name given filter reach)
        (looks.no_inner_window name given filter reach (looks.is_placed cs (Invoked name given filter reach)
        (shut_not (is_bad cs (Invoked name given filter reach)) (is_listed (group_calls c) (Invoked name given filter reach)) e)))
shut_row cs c b K (Field q name) out shut =
    absurd (looks.find_open (is_bad cs (Field q name) || not (is_typed_cell (row_of cs c b) (group_cells cs c b) (Field q name))) shut)
shut_row cs c b K n out shut = absurd (looks.find_open (is_bad cs n) shut)

-- the calls with OVER of the SELECT
pub window_rows : (cs : List Titled) (c : Clauses) (b : Bool) → Shown cs c b
    → list_all (is_clear Windowed (sees_row cs c b)) (window_calls c) ≡ true
window_rows cs c b s =
    let w = sees_row cs c b in window_kept cs c w (is_clear Windowed w) (kept_clear Windowed w) (shut_row cs c b (is_clear Windowed w)) s

-- its aggregates
pub group_sources : (cs : List Titled) (c : Clauses) → rules.Kept cs c
    → list_all (is_clear Grouped (finds (is_bad cs))) (group_calls c) ≡ true
group_sources cs c k =
    let w = finds (is_bad cs) in
    group_kept cs c w (is_clear Grouped w) (kept_clear Grouped w) (open_finds (is_call_of Grouped) (is_bad cs)
    (is_clear Grouped w)) k.bad.shown

ungrouped_shut : (g : List Tree) (K : Tree → Bool) → Shut (is_call_of Grouped) (sees_ungrouped g) K
ungrouped_shut g K (Field q name) out shut = absurd (looks.field_open (list_any (names name) g) shut)
ungrouped_shut g K (Invoked name (Columns us) filter reach) out shut = absurd (looks.below_open shut)
ungrouped_shut g K (Invoked name given filter reach) out shut =
    absurd (true≢false (sym (looks.closed_call (is_group_call (Invoked name given filter reach)) shut)
    ∙ sym (looks.alike name given filter reach) ∙ out))
ungrouped_shut g K _ out shut = absurd (looks.below_open shut)

pub group_columns_named : (cs : List Titled) (c : Clauses) → rules.Kept cs c → made.is_grouped c (group_calls c) ≡ true
    → list_all (is_clear Grouped (sees_ungrouped (all_columns c.grouping))) (group_calls c) ≡ true
group_columns_named cs c k e =
    let g = all_columns c.grouping in let w = sees_ungrouped g in
    group_kept cs c w (is_clear Grouped w) (kept_clear Grouped w) (ungrouped_shut g (is_clear Grouped w)) (names_grouped cs c k e).0

-- a query that is not grouped has no aggregates
pub no_groups : (cs : List Titled) (c : Clauses) → made.is_grouped c (group_calls c) ≡ false → group_calls c ≡ []
no_groups cs c e =
    nothing (group_calls c) (or_parts _ _ (or_parts _ _ e).1).1
  where
    nothing : (ts : List Tree) → judged.has_some ts ≡ false → ts ≡ []
    nothing [] f = refl
    nothing (t ∷ ts) f = absurd (true≢false f)

without : (s r : Tree → Bool) → Kept s (finds r) (λ n. not (r n))
without s r n sought e = ap not (open_find (r n) (some_below (finds r) n) e).0

-- no call with OVER is one that a rule finds
pub windows_without : (cs : List Titled) (c : Clauses) (r : Tree → Bool) → Nowhere cs c (finds r)
    → list_all (λ (n : Tree). not (r n)) (window_calls c) ≡ true
windows_without cs c r e =
    window_kept cs c (finds r) (λ n. not (r n)) (without (is_call_of Windowed) r) (open_finds (is_call_of Windowed) r
    (λ n. not (r n))) e.shown

-- `*` in a grouped query
pub star_named : (cs : List Titled) (c : Clauses) → rules.Kept cs c → made.is_grouped c (group_calls c) ≡ true
    → (list_any is_star c.items && list_any (is_ungrouped_column (all_columns c.grouping)) cs) ≡ false
star_named cs c k e = (names_grouped cs c k e).1
