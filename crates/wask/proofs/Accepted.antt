-- A query that breaks no rule resolves to a sound one.
use Rattle.std.proofs.Common.{◌≡◌, Bool, true, false, ◌&&◌, ℕ, suc, ◌+◌, ◌≤◌, List, [], ◌∷◌}
use Rattle.std.proofs.Common.{◌++◌, length, Option, Some, None, refl, ◌∙◌, ap, ap₂, arith}
use Rattle.std.specs.List.{list_all, list_any}
use Rattle.std.proofs.lemmas.Bool.{or_parts}
use Rattle.std.proofs.lemmas.List.{length-append}
use Rattle.std.proofs.lemmas.List.Folds.{list_all-append}
use Rattle.wsegment.specs.Declaration.{Declaration}
use Rattle.wquery.specs.QueryTree.{Clauses, QueryTree, Selected, SourceTree, FromTable, FromQuery}
use Rattle.wscope.specs.Finding.{finds}
use Rattle.wscope.specs.Scope.{some_anywhere}
use Rattle.wscope.specs.Sources.{origin_of}
use Rattle.wscope.specs.Types.{Origin, Titled}
use Rattle.wscope.specs.Windows.{NamedWindow}
use Rattle.wnames.specs.Calls.{is_zeroth, breaks_zeroths}
use Rattle.wwindows.specs.Order.{breaks_places}
use Rattle.wwindows.specs.Limits.{breaks_limits}
use Rattle.wwindows.specs.Windows.{breaks_bounds, breaks_copies, breaks_entries, breaks_groups, breaks_ranges, breaks_window_names}
use Rattle.wwindows.specs.Windows.{copies_unknown, entry_is, is_over_unknown, lacks_range_key, reach_is, some_entry_after, windows_of}
use Rattle.wrules.specs.declared.rule.Rule.{Rule}
use Rattle.wrules.specs.declared.rule.Rule.TheVariants.{UnknownWindow, RepeatedWindow, WrongCopy, WrongBounds, UnorderedGroups}
use Rattle.wrules.specs.declared.rule.Rule.TheVariants.{WrongRangeKey, ZeroCount, WrongPlace, OverLimit}
use Rattle.wrules.specs.Rules.{depth_rule, first_broken_rule, first_of, first_of_names, first_of_windows}
use Rattle.wrules.specs.Rules.{judged, least, least_source, or_else, sets_rule}
use Rattle.wplan.specs.Plans.{SelectPlan}
use Rattle.wcalls.specs.Sound.{is_sound_window}
use Rattle.wplanner.specs.Sound.{is_sound_call, is_sound_query, is_sound_select}
use Rattle.wdistinct.specs.Calls.{group_calls, window_calls}
use Rattle.wbinding.specs.Resolving.{Layout}
use Rattle.wresolve.specs.Selecting.{calls_made, entries_made, own_windows, resolved_query}
use Rattle.wresolve.specs.Selecting.{resolved_source, select_made, shown_row, windows_made}
use Rattle.wask.proofs.Nodes.{calls_kept}
use Rattle.wask.proofs.SoundWindows.{entries_sound, lacks_own_key, own_sound}
use Rattle.wask.proofs.SoundCalls.{calls_sound}

some_or_none : (rule : Rule) → ¬ (Some rule ≡ None)
some_or_none rule e = cc

-- of two rules neither is broken
neither : (a b : Option Rule) → or_else a b ≡ None → (a ≡ None) × (b ≡ None)
neither None b e = (refl, e)
neither (Some rule) b e = absurd (some_or_none rule e)

kept_of : (names entries copies bounds groups ranges zeroths places limits : Bool)
    → first_of ((UnknownWindow, names) ∷ (RepeatedWindow, entries) ∷ (WrongCopy, copies) ∷ (WrongBounds, bounds)
    ∷ (UnorderedGroups, groups) ∷ (WrongRangeKey, ranges) ∷ (ZeroCount, zeroths) ∷ (WrongPlace, places)
    ∷ (OverLimit, limits) ∷ []) ≡ None
    → (names ≡ false) × (ranges ≡ false) × (zeroths ≡ false)
kept_of true entries copies bounds groups ranges zeroths places limits e = absurd (some_or_none UnknownWindow e)
kept_of false true copies bounds groups ranges zeroths places limits e = absurd (some_or_none RepeatedWindow e)
kept_of false false true bounds groups ranges zeroths places limits e = absurd (some_or_none WrongCopy e)
kept_of false false false true groups ranges zeroths places limits e = absurd (some_or_none WrongBounds e)
kept_of false false false false true ranges zeroths places limits e = absurd (some_or_none UnorderedGroups e)
kept_of false false false false false true zeroths places limits e = absurd (some_or_none WrongRangeKey e)
kept_of false false false false false false true places limits e = absurd (some_or_none ZeroCount e)
kept_of false false false false false false false places limits e = (refl, refl, refl)

-- the three rules that sound windows and calls rest on
rules_kept : (ws : List NamedWindow) (cs : List Titled) (c : Clauses) → first_of_windows ws cs c ≡ None
    → (breaks_window_names ws cs c ≡ false) × (breaks_ranges ws cs c ≡ false) × (breaks_zeroths cs c ≡ false)
rules_kept ws cs c e =
    kept_of (breaks_window_names ws cs c) (breaks_entries c.windows) (breaks_copies ws cs c) (breaks_bounds ws cs c)
    (breaks_groups ws cs c) (breaks_ranges ws cs c) (breaks_zeroths cs c) (breaks_places cs c) (breaks_limits cs c) e

-- the windows of a SELECT
windows_sound : (cs : List Titled) (c : Clauses) (l : Layout) → breaks_ranges (windows_of c) cs c ≡ false
    → list_all is_sound_window (windows_made l (windows_of c) (window_calls c)) ≡ true
windows_sound cs c l e =
    let parts = or_parts (list_any (entry_is (lacks_range_key cs)) (windows_of c))
    (some_anywhere cs c (finds (lacks_own_key (windows_of c) cs))) e in
    list_all-append is_sound_window (entries_made l (windows_of c)) (own_windows l (windows_of c) (window_calls c))
    ∙ ap₂ (λ a b. a && b) (entries_sound cs l (windows_of c) parts.0) (own_sound _ cs l (windows_of c) (window_calls c)
    (calls_kept cs c (lacks_own_key (windows_of c) cs) parts.1))

entries_length : (l : Layout) (ws : List NamedWindow) → length (entries_made l ws) ≡ length ws
entries_length l [] = refl
entries_length l (w ∷ ws) = ap suc (entries_length l ws)

entries_fit : (n e w o : ℕ) → n ≡ e + o → e ≡ w → w ≤ n
entries_fit n e w o all entries = omega (arith, all, entries)

all_fit : (n e w o : ℕ) → n ≡ e + o → e ≡ w → w + o ≤ n
all_fit n e w o all entries = omega (arith, all, entries)

-- the calls with OVER of a SELECT
calls_fit : (cs : List Titled) (c : Clauses) (l : Layout) → breaks_window_names (windows_of c) cs c ≡ false → breaks_zeroths cs c ≡ false
    → list_all (is_sound_call (length (windows_made l (windows_of c) (window_calls c))))
    (calls_made l (windows_of c) (length (windows_of c)) (window_calls c)) ≡ true
calls_fit cs c l names zeroths =
    calls_sound l (windows_of c) (length (windows_made l (windows_of c) (window_calls c))) (window_calls c) (length (windows_of c))
    (entries_fit _ _ _ _ all (entries_length l (windows_of c))) (all_fit _ _ _ _ all (entries_length l (windows_of c)))
    (calls_kept cs c (reach_is (is_over_unknown (windows_of c)))
    (or_parts (some_entry_after (windows_of c) 0 copies_unknown c.windows)
    (some_anywhere cs c (finds (reach_is (is_over_unknown (windows_of c))))) names).1)
    (calls_kept cs c is_zeroth zeroths)
  where
    all : length (windows_made l (windows_of c) (window_calls c)) ≡ length (entries_made l (windows_of c)) + length
        (own_windows l (windows_of c) (window_calls c))
    all = length-append (entries_made l (windows_of c)) (own_windows l (windows_of c) (window_calls c))

select_sound : (table : List ℕ) (o : Origin) (c : Clauses) (s : SourceTree) → judged table o c s ≡ None
    → is_sound_select (select_made o.columns c) ≡ true
select_sound table o c s e = ap₂ (λ a b. a && b) (windows_sound o.columns c l rules.1) (calls_fit o.columns c l rules.0 rules.2)
  where
    l : Layout
    l = shown_row o.columns c (group_calls c) (window_calls c)

    rules : (breaks_window_names (windows_of c) o.columns c ≡ false) × (breaks_ranges (windows_of c) o.columns c ≡ false)
        × (breaks_zeroths o.columns c ≡ false)
    rules = rules_kept (windows_of c) o.columns c (neither (first_of_names table o.alias o.columns c s)
        (first_of_windows (windows_of c) o.columns c) e).1

mutual
  selects_sound : (d : Declaration) (q : QueryTree) → least d q ≡ None → list_all is_sound_select (resolved_query d q) ≡ true
  selects_sound d (Selected c s) e =
      list_all-append is_sound_select (resolved_source d s) (select_made (origin_of d s).columns c ∷ [])
      ∙ ap₂ (λ a b. a && (b && true)) (source_sound d s (neither (least_source d s) (judged d.table (origin_of d s) c s)
      e).0) (select_sound d.table (origin_of d s) c s (neither (least_source d s) (judged d.table (origin_of d s) c s) e).1)

  source_sound : (d : Declaration) (s : SourceTree) → least_source d s ≡ None → list_all is_sound_select (resolved_source d s) ≡ true
  source_sound d (FromTable name alias) e = refl
  source_sound d (FromQuery q alias) e = selects_sound d q (neither (least d q) (sets_rule q) e).0

not_empty : (selects : List SelectPlan) (outermost : SelectPlan) → list_all is_sound_select (selects ++ (outermost ∷ []))
    ≡ true → is_sound_query (selects ++ (outermost ∷ [])) ≡ true
not_empty [] outermost e = e
not_empty (s ∷ ss) outermost e = e

pub accepted_is_sound : (d : Declaration) (q : QueryTree) → first_broken_rule d q ≡ None → is_sound_query (resolved_query d q) ≡ true
accepted_is_sound d (Selected c s) e =
    not_empty (resolved_source d s) (select_made (origin_of d s).columns c)
    (selects_sound d (Selected c s) (neither (least d (Selected c s)) (or_else (depth_rule (Selected c s))
    (sets_rule (Selected c s))) e).0)

-- the same of what resolving answers
pub resolved_is_sound : (d : Declaration) (q : QueryTree) (selects : List SelectPlan) → (first_broken_rule d q ≡ None)
    × (selects ≡ resolved_query d q) → is_sound_query selects ≡ true
resolved_is_sound d q selects e = ap is_sound_query e.1 ∙ accepted_is_sound d q e.0
