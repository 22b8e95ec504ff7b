-- A SELECT that no rule refuses is well typed.
use Rattle.std.proofs.Common.{◌≡◌, Bool, true, false, not, ℕ, suc, List, [], ◌∷◌, ◌++◌, length}
use Rattle.std.proofs.Common.{map, Option, Some, None, refl, sym, ap, ap₂, ◌∙◌, true≢false}
use Rattle.std.specs.Prelude.{if◌then◌else◌}
use Rattle.std.specs.List.{list_all}
use Rattle.std.proofs.lemmas.Bool.{or_parts, and_parts, and_from, not-true, not-false}
use Rattle.std.proofs.lemmas.List.Folds.{list_all-append}
use Rattle.wquery.specs.GroupElements.{all_columns}
use Rattle.wquery.specs.QueryTree.{Clauses}
use Rattle.wquery.specs.Tree.{Tree, Invoked, Trees, Given, Everything, These, Columns, Filter, Reach, ItsGroup, ThatWindow, OwnWindow}
use Rattle.wscope.specs.declared.data_type.DataType.{DataType}
use Rattle.wscope.specs.declared.look.Look.{Look}
use Rattle.wscope.specs.Finding.{finds}
use Rattle.wscope.specs.Scope.{some_option}
use Rattle.wscope.specs.Seeking.{found_or, some_below, some_node}
use Rattle.wscope.specs.Types.{Titled, type_of}
use Rattle.wscope.specs.Windows.{NamedWindow}
use Rattle.wnames.specs.Groups.{is_group_call, is_window_call, sees_ungrouped}
use Rattle.wnames.specs.Types.{is_no_condition}
use Rattle.wwindows.specs.Windows.{own_window_is, reach_is, windows_of, has_bad_frame, lacks_groups, lacks_range_key}
use Rattle.wdistinct.specs.declared.distinct_calls.CallKind.{CallKind}
use Rattle.wdistinct.specs.declared.distinct_calls.CallKind.TheVariants.{Grouped, Windowed}
use Rattle.wdistinct.specs.Calls.{group_calls, is_call_of, window_calls}
use Rattle.wplan.specs.Plans.{GroupingPlan}
use Rattle.wbinding.specs.Resolving.{Layout, resolved, resolved_option, source_row}
use Rattle.wbinding.specs.Functions.{call_function}
use Rattle.wbinding.specs.Groups.{column_places, elements_made, group_call_made}
use Rattle.wresolve.specs.Selecting as made
use Rattle.wresolve.specs.Selecting.{calls_made, entries_made, grouping_over, has_own_window, own_windows, windows_made}
use Rattle.wgroupby.specs.Sets.{is_among}
use Rattle.wtyped.specs.Laws.{types_of}
use Rattle.wtyped.specs.Plans.{are_windows, call_types, function_type, group_call_type, group_call_types}
use Rattle.wtyped.specs.Plans.{is_condition, is_having, is_window, row_types, with_type, with_types}
use Rattle.wtyped.specs.Typing.{formula_type}
use Rattle.wtyped.proofs.Alike.{is_listed}
use Rattle.wtyped.proofs.Calls as calls
use Rattle.wtyped.proofs.Calls.{Fits}
use Rattle.wtyped.proofs.Columns.{cells_there, group_places, groups_there}
use Rattle.wtyped.proofs.Formulas.{sees_misfit, typed}
use Rattle.wtyped.proofs.Looks as looks
use Rattle.wtyped.proofs.Rows as rows
use Rattle.wtyped.proofs.Rows.{group_cells, is_clear, row_of, sees_row}
use Rattle.wtyped.proofs.Rules.{is_bad}
use Rattle.wtyped.proofs.Rules as rules
use Rattle.wtyped.proofs.Tests.{and_rest, are_false}
use Rattle.wtyped.proofs.Walks.{all_nowhere, open_find, parts_below, some_of}
use Rattle.wtyped.proofs.Windows as windows
use Rattle.std.proofs.lemmas.List.{append-nil}

-- conditions

pub condition_typed : (l : Layout) (ts : List DataType) (t : Option Tree) → some_option (sees_misfit l ts) t ≡ false
    → is_no_condition l.columns t ≡ false → is_condition ts (resolved_option l t) ≡ true
condition_typed l ts None e f = refl
condition_typed l ts (Some t) e f =
    calls.condition (formula_type ts (resolved l t)) (type_of l.columns t) (typed l ts t e) (not-false _ f)

-- looks that find nothing

-- aggregates

group_fits : (cs : List Titled) (name : List ℕ) (given : Given) (filter : Filter) (reach : Reach)
    → some_node (finds (is_bad cs)) (Invoked name given filter reach) ≡ false → is_group_call (Invoked name given filter reach) ≡ true
    → Fits (source_row cs) (types_of cs) name given filter reach
group_fits cs name given filter reach e g =
    let n = Invoked name given filter reach in
    let o = open_find (is_bad cs n) (some_below (finds (is_bad cs)) n) e in
    calls.fits (source_row cs) (types_of cs) name given filter reach (looks.is_given cs n o.0) (looks.is_fit cs n o.0)
    (parts_below (finds (is_bad cs)) (finds looks.is_any_call) (sees_misfit (source_row cs) (types_of cs)) (rows.source cs) n o.1
    (rows.no_calls n (looks.no_inner_window name given filter reach (looks.is_placed cs n o.0)) (and_rest _ _ g (looks.is_flat cs n o.0))))

named_columns : (cs : List Titled) (c : Clauses) (name : List ℕ) (given : Given) (filter : Filter) (reach : Reach)
    → Fits (source_row cs) (types_of cs) name given filter reach
    → some_node (sees_ungrouped (all_columns c.grouping)) (Invoked name given filter reach) ≡ false
    → (us : Trees) → given ≡ Columns us → list_all (λ p. is_among p (group_places cs c.grouping)) (column_places cs us) ≡ true
named_columns cs c name Everything filter reach f e us is = cc
named_columns cs c name (These vs) filter reach f e us is = cc
named_columns cs c name (Columns vs) filter reach f e us is =
    let same : vs ≡ us = cc in
    let fields = and_parts _ _ (and_parts _ _ f.shaped).1 in
    ap (λ (x : Trees). list_all (λ p. is_among p (group_places cs c.grouping)) (column_places cs x)) (sym same)
    ∙ calls.all_named cs c vs fields.0 (or_parts _ _ e).0

clear_parts : (kind : CallKind) (w : Tree → Look) (n : Tree) → is_clear kind w n ≡ true → (is_call_of kind n ≡ true)
    × (some_node w n ≡ false)
clear_parts kind w n e = let p = and_parts _ _ e in (p.0, not-true _ p.1)

group_type : (cs : List Titled) (c : Clauses) (t : Tree) → is_clear Grouped (finds (is_bad cs)) t ≡ true
    → is_clear Grouped (sees_ungrouped (all_columns c.grouping)) t ≡ true
    → group_call_type (types_of cs) (group_places cs c.grouping) (group_call_made (source_row cs) t) ≡ Some (type_of cs t)
group_type cs c (Invoked name given filter reach) e f =
    let n = Invoked name given filter reach in
    let p = clear_parts Grouped (finds (is_bad cs)) n e in let q = clear_parts Grouped (sees_ungrouped (all_columns c.grouping)) n f in
    let g = sym (looks.alike name given filter reach) ∙ p.0 in
    let fits = group_fits cs name given filter reach p.1 g in
    calls.group_call cs c (group_places cs c.grouping) name given filter reach (types_of cs) fits g
    (named_columns cs c name given filter reach fits q.1)
group_type cs c _ e f = absurd (true≢false (sym e))

group_types : (cs : List Titled) (c : Clauses) (gs : List Tree) → list_all (is_clear Grouped (finds (is_bad cs))) gs ≡ true
    → list_all (is_clear Grouped (sees_ungrouped (all_columns c.grouping))) gs ≡ true
    → group_call_types (types_of cs) (group_places cs c.grouping) (map (group_call_made (source_row cs)) gs) ≡ Some (map (type_of cs) gs)
group_types cs c [] e f = refl
group_types cs c (t ∷ ts) e f =
    let a = and_parts _ _ e in
    let b = and_parts _ _ f in
    ap₂ (λ x y. with_type x y) (group_type cs c t a.0 b.0) (group_types cs c ts a.1 b.1)

-- the row of windows, items and keys

abbrev grouping_of : List Titled → Clauses → Bool → Option GroupingPlan
grouping_of cs c b = grouping_over cs (elements_made cs c.grouping) (group_calls c) (row_of cs c b) c (row_of cs c b).grouping

pub row_typed : (cs : List Titled) (c : Clauses) (b : Bool) → rules.Kept cs c → made.is_grouped c (group_calls c) ≡ b
    → row_types (types_of cs) (grouping_of cs c b) ≡ Some (group_cells cs c b)
row_typed cs c false k e =
    ap Some (sym (append-nil (types_of cs)) ∙ ap (λ (gs : List Tree). types_of cs ++ map (type_of cs) gs) (sym (rows.no_groups cs c e)))
row_typed cs c true k e =
    ap₂ (λ x y. with_types x y) (cells_there (group_places cs c.grouping) (types_of cs) (groups_there cs c.grouping k.fields k.columns))
    (group_types cs c (group_calls c) (rows.group_sources cs c k) (rows.group_columns_named cs c k e))

pub having_typed : (cs : List Titled) (c : Clauses) (b : Bool) → rules.Kept cs c → rows.Shown cs c b
    → is_having (group_cells cs c b) (grouping_of cs c b) ≡ true
having_typed cs c false k s = refl
having_typed cs c true k s = condition_typed (row_of cs c true) (group_cells cs c true) c.having (rows.fit_having cs c true k s) k.having

-- calls with OVER

open_group : (b k x : Bool) → found_or (looks.group_look false b k) x ≡ false → (b ≡ false) × (x ≡ false)
open_group true k x e = absurd (true≢false e)
open_group false k x e = (refl, e)

row_fits : (cs : List Titled) (c : Clauses) (b : Bool) (name : List ℕ) (given : Given) (filter : Filter) (reach : Reach)
    → found_or (looks.group_look false (is_bad cs (Invoked name given filter reach))
    (is_listed (group_calls c) (Invoked name given filter reach)))
    (some_below (sees_row cs c b) (Invoked name given filter reach)) ≡ false
    → Fits (row_of cs c b) (group_cells cs c b) name given filter reach
row_fits cs c b name given filter reach e =
    let n = Invoked name given filter reach in
    let o = open_group (is_bad cs n) (is_listed (group_calls c) n) (some_below (sees_row cs c b) n) e in
    calls.fits (row_of cs c b) (group_cells cs c b) name given filter reach (looks.is_given cs n o.0) (looks.is_fit cs n o.0)
    (parts_below (sees_row cs c b) (finds is_window_call) (sees_misfit (row_of cs c b) (group_cells cs c b))
    (rows.inner cs c b) n o.1 (looks.no_inner_window name given filter reach (looks.is_placed cs n o.0)))

over_fits : (cs : List Titled) (c : Clauses) (b : Bool) (name : List ℕ) (given : Given) (filter : Filter) (reach : Reach)
    → is_clear Windowed (sees_row cs c b) (Invoked name given filter reach) ≡ true
    → Fits (row_of cs c b) (group_cells cs c b) name given filter reach
over_fits cs c b name given filter ItsGroup e = absurd (true≢false (sym e))
over_fits cs c b name given filter (ThatWindow window) e =
    let n = Invoked name given filter (ThatWindow window) in row_fits cs c b name given filter (ThatWindow window)
    (clear_parts Windowed (sees_row cs c b) n e).1
over_fits cs c b name given filter (OwnWindow copied partition order frame) e =
    let r = OwnWindow copied partition order frame in
    row_fits cs c b name given filter r (clear_parts Windowed (sees_row cs c b) (Invoked name given filter r) e).1

call_typed : (cs : List Titled) (c : Clauses) (b : Bool) (t : Tree) → is_clear Windowed (sees_row cs c b) t ≡ true
    → function_type (group_cells cs c b) (call_function (row_of cs c b) t) ≡ Some (type_of cs t)
call_typed cs c b (Invoked name given filter reach) e =
    calls.window_call (row_of cs c b) (group_cells cs c b) name given filter reach (over_fits cs c b name given filter reach e)
call_typed cs c b _ e = absurd (true≢false (sym e))

calls_typed : (cs : List Titled) (c : Clauses) (b : Bool) (ws : List NamedWindow) (next : ℕ) (ts : List Tree)
    → list_all (is_clear Windowed (sees_row cs c b)) ts ≡ true
    → call_types (group_cells cs c b) (calls_made (row_of cs c b) ws next ts) ≡ Some (map (type_of cs) ts)
calls_typed cs c b ws next [] e = refl
calls_typed cs c b ws next (t ∷ ts) e =
    let p = and_parts _ _ e in
    ap₂ (λ x y. with_type x y) (call_typed cs c b t p.0) (calls_typed cs c b ws (if has_own_window t then suc next else next) ts p.1)

-- windows

-- a call with a window of its own whose frame does not fit
abbrev lacks_frame : List NamedWindow → List Titled → Tree → Bool
lacks_frame ws cs =
    some_of (reach_is (own_window_is ws has_bad_frame)) (reach_is (own_window_is ws lacks_groups) ∷ reach_is
    (own_window_is ws (lacks_range_key cs)) ∷ [])

own_typed : (cs : List Titled) (c : Clauses) (b : Bool) (ws : List NamedWindow) (t : Tree)
    → windows.AreTyped (row_of cs c b) (group_cells cs c b) ws → is_clear Windowed (sees_row cs c b) t ≡ true → lacks_frame ws cs t ≡ false
    → are_windows (group_cells cs c b) (made.own_window (row_of cs c b) ws t) ≡ true
own_typed cs c b ws (Invoked name given filter reach) a e k =
    let f = over_fits cs c b name given filter reach e in
    let x = are_false (own_window_is ws has_bad_frame reach) (own_window_is ws lacks_groups reach ∷ own_window_is ws
    (lacks_range_key cs) reach ∷ []) k in
    windows.own_typed (row_of cs c b) (group_cells cs c b) ws reach a f.in_reach f.reach_typed x.0 x.1.0 x.1.1
own_typed cs c b ws _ a e k = absurd (true≢false (sym e))

owns_typed : (cs : List Titled) (c : Clauses) (b : Bool) (ws : List NamedWindow) (ts : List Tree)
    → windows.AreTyped (row_of cs c b) (group_cells cs c b) ws → list_all (is_clear Windowed (sees_row cs c b)) ts ≡ true
    → list_all (λ (t : Tree). not (lacks_frame ws cs t)) ts ≡ true
    → are_windows (group_cells cs c b) (own_windows (row_of cs c b) ws ts) ≡ true
owns_typed cs c b ws [] a e k = refl
owns_typed cs c b ws (t ∷ ts) a e k =
    let p = and_parts _ _ e in
    let x = and_parts _ _ k in
    list_all-append (is_window (group_cells cs c b)) (made.own_window (row_of cs c b) ws t) (own_windows (row_of cs c b) ws ts)
    ∙ and_from _ _
    (own_typed cs c b ws t a p.0 (not-true _ x.0)) (owns_typed cs c b ws ts a p.1 x.1)

pub windows_typed : (cs : List Titled) (c : Clauses) (b : Bool) → rules.Kept cs c → rows.Shown cs c b
    → are_windows (group_cells cs c b) (windows_made (row_of cs c b) (windows_of c) (window_calls c)) ≡ true
windows_typed cs c b k s =
    let ws = windows_of c in let l = row_of cs c b in let ts = group_cells cs c b in
    let a = windows.entries_typed l ts c.windows (rows.fit_entries cs c b k s) k.entries in
    let x = or_parts _ _ k.bounds in
    let y = or_parts _ _ k.groups in
    let z = or_parts _ _ k.ranges in
    list_all-append (is_window ts) (entries_made l ws) (own_windows l ws (window_calls c))
    ∙ and_from _ _ (windows.named_windows l ts ws a x.0 y.0 z.0)
    (owns_typed cs c b ws (window_calls c) a (rows.window_rows cs c b s) (rows.windows_without cs c (lacks_frame ws cs)
    (all_nowhere cs c (reach_is (own_window_is ws has_bad_frame)) (reach_is (own_window_is ws lacks_groups) ∷ reach_is
    (own_window_is ws (lacks_range_key cs)) ∷ []) (x.1, (y.1, z.1)))))

pub over_typed : (cs : List Titled) (c : Clauses) (b : Bool) → rows.Shown cs c b
    → call_types (group_cells cs c b)
    (calls_made (row_of cs c b) (windows_of c) (length (windows_of c)) (window_calls c)) ≡ Some (map (type_of cs) (window_calls c))
over_typed cs c b s =
    calls_typed cs c b (windows_of c) (length (windows_of c)) (window_calls c) (rows.window_rows cs c b s)
