-- Windows that no rule refuses are well typed.
use Rattle.std.proofs.Common.{◌≡◌, Bool, true, false, not, ◌&&◌, ◌||◌, ◌==◌, ℕ, ◌^◌, nat_lt, nat_le, List}
use Rattle.std.proofs.Common.{[], ◌∷◌, ◌++◌, Option, Some, None, refl, sym, ap, ap₂, ◌∙◌, true≢false}
use Rattle.std.specs.Prelude.{if◌then◌else◌}
use Rattle.std.specs.List.{list_all, list_any}
use Rattle.std.specs.Str.{bytes_eq}
use Rattle.std.proofs.lemmas.Bool.{or_parts, and_parts, and_from, not-true, not-false, lt-ltb, le-leb, ltb-false, leb-false}
use Rattle.wquery.specs.declared.frame.Frame.{Frame}
use Rattle.wquery.specs.declared.frame.FrameMode.{FrameMode}
use Rattle.wquery.specs.declared.frame.FrameMode.TheVariants.{Rows, Range, Groups}
use Rattle.wquery.specs.declared.frame.FrameBound.{FrameBound}
use Rattle.wquery.specs.declared.frame.FrameBound.TheVariants.{UnboundedPreceding, Preceding, Following, UnboundedFollowing}
use Rattle.wquery.specs.Tree.{Tree, Reach, ItsGroup, ThatWindow, OwnWindow, Keys, NoKeys, MoreKeys, keys, Trees, NoTrees, MoreTrees, trees}
use Rattle.wquery.specs.QueryTree.{EntryTree}
use Rattle.wnodes.specs.Bounds.{end_of, place_of_bound}
use Rattle.wscope.specs.declared.data_type.DataType.{DataType}
use Rattle.wscope.specs.declared.data_type.DataType.TheVariants.{Text, Truth}
use Rattle.wscope.specs.Scope.{some_entry}
use Rattle.wscope.specs.Seeking.{some_key, some_node, some_reach, some_tree}
use Rattle.wscope.specs.Types as scope
use Rattle.wscope.specs.Types.{Titled, type_of}
use Rattle.wscope.specs.Windows.{NamedWindow, Expanded, keys_or, or_none, expand, expand_all, expand_tree, window_named}
use Rattle.wnames.specs.Types.{all_keys, all_trees, is_truth_entry, is_window_typed}
use Rattle.wnames.specs.Types as judged
use Rattle.wwindows.specs.Windows as rules
use Rattle.wwindows.specs.Windows.{entry_is, has_bad_bounds, has_bad_frame, has_range_key, is_long}
use Rattle.wwindows.specs.Windows.{is_text_type, lacks_groups, lacks_range_key, own_window_is}
use Rattle.wbinding.specs.Resolving.{Layout, resolved}
use Rattle.wresolve.specs.Selecting.{entries_made, frame_made, keys_made, trees_made, window_made, window_of_reach}
use Rattle.wtyped.specs.Plans.{are_bounds, are_keys, are_windows, has_keys, has_offset, is_any, is_frame}
use Rattle.wtyped.specs.Plans.{is_one_number, is_short, is_value, is_window, suits_keys}
use Rattle.wtyped.specs.Typing.{has, is_number}
use Rattle.wtyped.proofs.Calls.{valued_as}
use Rattle.wtyped.proofs.Formulas.{sees_misfit, typed}
use Rattle.wtyped.proofs.Tests.{are_false, are_true}

-- expressions and keys that fit a row and are values
abbrev pub AreValues : Layout → List DataType → Trees → Type 0
AreValues l ts us = (some_tree (sees_misfit l ts) us ≡ false) × (all_trees (judged.is_value l.columns) us ≡ true)

abbrev pub AreKeys : Layout → List DataType → Keys → Type 0
AreKeys l ts ks = (some_key (sees_misfit l ts) ks ≡ false) × (all_keys (judged.is_value l.columns) ks ≡ true)

-- expanded windows whose parts and keys hold
abbrev pub IsMade : (Trees → Type 0) → (Keys → Type 0) → Expanded → Type 0
IsMade P Q w = P w.partition × Q w.order

abbrev pub AreMade : (Trees → Type 0) → (Keys → Type 0) → List NamedWindow → Type 0
AreMade P Q [] = Unit {0}
AreMade P Q (w ∷ ws) = IsMade P Q w.window × AreMade P Q ws

module _ (P : Trees → Type 0) (Q : Keys → Type 0) (none : P NoTrees × Q NoKeys) where
  named_made : (ws : List NamedWindow) (name : List ℕ) → AreMade P Q ws → IsMade P Q (or_none (window_named ws name))
  named_made [] name a = none
  named_made (w ∷ ws) name a = go (bytes_eq w.name name) (named_made ws name a.1)
    where
      go : (b : Bool) → IsMade P Q (or_none (window_named ws name))
          → IsMade P Q (or_none (if b then Some w.window else window_named ws name))
      go true rest = a.0
      go false rest = rest

  own_made : (own copied : Keys) → Q own → Q copied → Q (keys_or own copied)
  own_made NoKeys copied a b = b
  own_made (MoreKeys t descending nulls more) copied a b = a

  pub settled_made : (ws : List NamedWindow) (copied : Option (List ℕ)) (us : Trees) (ks : Keys) (frame : Option Frame) → AreMade P Q ws
      → P us → Q ks → IsMade P Q (expand ws copied us ks frame)
  settled_made ws None us ks frame a u k = (u, k)
  settled_made ws (Some name) us ks frame a u k =
      let n = named_made ws name a in (n.0, own_made ks (or_none (window_named ws name)).order k n.1)

  behind_made : (ws vs : List NamedWindow) → AreMade P Q ws → AreMade P Q vs → AreMade P Q (ws ++ vs)
  behind_made [] vs a b = b
  behind_made (w ∷ ws) vs a b = (a.0, behind_made ws vs a.1 b)

  -- WINDOW entries of which E tells that theirs hold
  pub all_made : (E : List EntryTree → Type 0)
      → ((x : EntryTree) (es : List EntryTree) → E (x ∷ es) → (P (trees x.window.partition) × Q (keys x.window.order)) × E es)
      → (ws : List NamedWindow) (es : List EntryTree) → AreMade P Q ws → E es → AreMade P Q (expand_all ws es)
  all_made E step ws [] a e = a
  all_made E step ws (x ∷ es) a e =
      let w : NamedWindow = record { name = x.name; window = expand_tree ws x.window } in
      let s = step x es e in
      let here = settled_made ws x.window.copied (trees x.window.partition) (keys x.window.order) x.window.frame a s.0.0 s.0.1 in
      all_made E step (ws ++ w ∷ []) es (behind_made ws (w ∷ []) a (here, tt)) s.1

abbrev pub IsTyped : Layout → List DataType → Expanded → Type 0
IsTyped l ts w = IsMade (AreValues l ts) (AreKeys l ts) w

abbrev pub AreTyped : Layout → List DataType → List NamedWindow → Type 0
AreTyped l ts ws = AreMade (AreValues l ts) (AreKeys l ts) ws

pub expanded_typed : (l : Layout) (ts : List DataType) (ws : List NamedWindow) (copied : Option (List ℕ)) (us : Trees) (ks : Keys)
    (frame : Option Frame) → AreTyped l ts ws → AreValues l ts us → AreKeys l ts ks → IsTyped l ts (expand ws copied us ks frame)
expanded_typed l ts = settled_made (AreValues l ts) (AreKeys l ts) ((refl, refl), (refl, refl))

reach_values : (l : Layout) (ts : List DataType) (copied : Option (List ℕ)) (us : Trees) (ks : Keys) (frame : Option Frame)
    → some_reach (sees_misfit l ts) (OwnWindow copied us ks frame) ≡ false
    → is_window_typed l.columns (OwnWindow copied us ks frame) ≡ true → AreValues l ts us × AreKeys l ts ks
reach_values l ts copied us ks frame e t =
    let p = or_parts _ _ e in
    let q = and_parts _ _ t in ((p.0, q.0), (p.1, q.1))

pub entries_typed : (l : Layout) (ts : List DataType) (es : List EntryTree) → some_entry (sees_misfit l ts) es ≡ false
    → list_any (is_truth_entry l.columns) es ≡ false → AreTyped l ts (expand_all [] es)
entries_typed l ts es e f =
    all_made (AreValues l ts) (AreKeys l ts) ((refl, refl), (refl, refl)) (λ xs. (some_entry (sees_misfit l ts) xs ≡ false)
    × (list_any (is_truth_entry l.columns) xs ≡ false)) each [] es tt (e, f)
  where
    each : (x : EntryTree) (xs : List EntryTree)
        → (some_entry (sees_misfit l ts) (x ∷ xs) ≡ false) × (list_any (is_truth_entry l.columns) (x ∷ xs) ≡ false)
        → (AreValues l ts (trees x.window.partition) × AreKeys l ts (keys x.window.order))
        × ((some_entry (sees_misfit l ts) xs ≡ false) × (list_any (is_truth_entry l.columns) xs ≡ false))
    each x xs a =
        let p = or_parts _ _ a.0 in
        let q = or_parts _ _ a.1 in
        let v = reach_values l ts x.window.copied (trees x.window.partition) (keys x.window.order) x.window.frame p.0 (not-false _ q.0) in
        (v, (p.1, q.1))

-- values of a row

value_made : (l : Layout) (ts : List DataType) (t : Tree) → some_node (sees_misfit l ts) t ≡ false → judged.is_value l.columns t ≡ true
    → is_value ts (resolved l t) ≡ true
value_made l ts t e v =
    ap (has is_any) (valued_as _ _ (typed l ts t e) (not-true _ v))

values_made : (l : Layout) (ts : List DataType) (us : Trees) → AreValues l ts us → list_all (is_value ts) (trees_made l us) ≡ true
values_made l ts NoTrees a = refl
values_made l ts (MoreTrees t us) a =
    let p = or_parts _ _ a.0 in
    let q = and_parts _ _ a.1 in
    and_from _ _ (value_made l ts t p.0 q.0) (values_made l ts us (p.1, q.1))

order_made : (l : Layout) (ts : List DataType) (ks : Keys) → AreKeys l ts ks → are_keys ts (keys_made l ks) ≡ true
order_made l ts NoKeys a = refl
order_made l ts (MoreKeys t descending nulls more) a =
    let p = or_parts _ _ a.0 in
    let q = and_parts _ _ a.1 in
    and_from _ _ (value_made l ts t p.0 q.0) (order_made l ts more (p.1, q.1))

-- frames

starts : (b : FrameBound) → (place_of_bound b == 4) ≡ false → nat_lt (place_of_bound b) 4 ≡ true
starts UnboundedFollowing e = absurd (true≢false e)
starts _ e = refl

ends : (b : FrameBound) → (place_of_bound b == 0) ≡ false → nat_lt 0 (place_of_bound b) ≡ true
ends UnboundedPreceding e = absurd (true≢false e)
ends _ e = refl

rises : (a b : FrameBound) → nat_lt (place_of_bound b) (place_of_bound a) ≡ false → nat_le (place_of_bound a) (place_of_bound b) ≡ true
rises a b e =
    le-leb (place_of_bound a) (place_of_bound b) (ltb-false (place_of_bound b) (place_of_bound a) e)

short : (b : FrameBound) → is_long b ≡ false → is_short b ≡ true
short (Preceding n) e = lt-ltb n (2 ^ 63) (leb-false (2 ^ 63) n e)
short (Following n) e = lt-ltb n (2 ^ 63) (leb-false (2 ^ 63) n e)
short _ e = refl

bounds : (a b : FrameBound)
    → ((place_of_bound a == 4) || ((place_of_bound b == 0) || (nat_lt (place_of_bound b) (place_of_bound a)
    || (is_long a || is_long b)))) ≡ false → are_bounds a b ≡ true
bounds a b e =
    let p = are_false (place_of_bound a == 4) ((place_of_bound b == 0) ∷ nat_lt (place_of_bound b) (place_of_bound a)
    ∷ is_long a ∷ is_long b ∷ []) e in
    let long = p.1.1.1 in
    are_true (nat_lt (place_of_bound a) 4) (nat_lt 0 (place_of_bound b) ∷ nat_le (place_of_bound a) (place_of_bound b)
    ∷ is_short a ∷ is_short b ∷ [])
    (starts a p.0, (ends b p.1.0, (rises a b p.1.1.0, (short a long.0, short b long.1))))

keyed : (l : Layout) (ks : Keys) → rules.has_keys ks ≡ true → has_keys (keys_made l ks) ≡ true
keyed l NoKeys e = absurd (true≢false (sym e))
keyed l (MoreKeys t descending nulls more) e = refl

number_type : (t : DataType) → is_text_type t ≡ false → scope.is_truth t ≡ false → is_number t ≡ true
number_type Text e f = absurd (true≢false e)
number_type Truth e f = absurd (true≢false f)
number_type _ e f = refl

one_key : (l : Layout) (ts : List DataType) (ks : Keys) → AreKeys l ts ks → has_range_key l.columns ks ≡ true
    → is_one_number ts (keys_made l ks) ≡ true
one_key l ts NoKeys a e = absurd (true≢false (sym e))
one_key l ts (MoreKeys t descending nulls NoKeys) a e =
    let p = or_parts _ _ a.0 in
    let q = and_parts _ _ a.1 in
    ap (has is_number) (typed l ts t p.0) ∙ number_type (type_of l.columns t) (not-true _ e) (not-true _ q.0)
one_key l ts (MoreKeys t descending nulls (MoreKeys u down first more)) a e = absurd (true≢false (sym e))

same_offset : (b : FrameBound) → has_offset b ≡ rules.is_offset b
same_offset (Preceding n) = refl
same_offset _ = refl

asked : (offset one : Bool) → ((true && offset) && not one) ≡ false → (not offset || one) ≡ true
asked false one e = refl
asked true true e = refl
asked true false e = absurd (true≢false e)

implied : (a b c : Bool) → (b ≡ true → c ≡ true) → (not a || b) ≡ true → (not a || c) ≡ true
implied true b c h e = h e
implied false b c h e = refl

suited : (l : Layout) (ts : List DataType) (ks : Keys) (mode : FrameMode) (offset : Bool) → AreKeys l ts ks
    → (rules.is_groups mode && not (rules.has_keys ks)) ≡ false
    → ((rules.is_range mode && offset) && not (has_range_key l.columns ks)) ≡ false → suits_keys ts (keys_made l ks) mode offset ≡ true
suited l ts ks Rows offset a g r = refl
suited l ts ks Groups offset a g r = keyed l ks (not-false _ g)
suited l ts ks Range offset a g r =
    implied offset (has_range_key l.columns ks) (is_one_number ts (keys_made l ks)) (one_key l ts ks a)
    (asked offset (has_range_key l.columns ks) r)

framed : (l : Layout) (ts : List DataType) (ks : Keys) (frame : Option Frame) → AreKeys l ts ks
    → rules.in_frame frame has_bad_bounds ≡ false → rules.in_frame frame (λ f. rules.is_groups f.mode && not (rules.has_keys ks)) ≡ false
    → rules.in_frame frame (λ f. (rules.is_range f.mode && (rules.is_offset f.start || rules.is_offset (end_of f)))
    && not (has_range_key l.columns ks)) ≡ false → is_frame ts (keys_made l ks) (frame_made frame) ≡ true
framed l ts ks None a b g r = refl
framed l ts ks (Some f) a b g r =
    and_from _ _ (bounds f.start (end_of f) b)
    (ap (suits_keys ts (keys_made l ks) f.mode) (ap₂ (λ x y. x || y) (same_offset f.start) (same_offset (end_of f)))
    ∙ suited l ts ks f.mode (rules.is_offset f.start || rules.is_offset (end_of f)) a g r)

-- what the rules on frames say of a window
abbrev pub HasFrame : List Titled → Expanded → Type 0
HasFrame cs w = (has_bad_frame w ≡ false) × (lacks_groups w ≡ false) × (lacks_range_key cs w ≡ false)

pub window_typed : (l : Layout) (ts : List DataType) (w : Expanded) → IsTyped l ts w → HasFrame l.columns w
    → is_window ts (window_made l w) ≡ true
window_typed l ts w t f =
    and_from _ _ (values_made l ts w.partition t.0)
    (and_from _ _ (order_made l ts w.order t.1) (framed l ts w.order w.frame t.1 f.0 f.1 f.2))

-- those of WINDOW entries
pub named_windows : (l : Layout) (ts : List DataType) (ws : List NamedWindow) → AreTyped l ts ws
    → list_any (entry_is has_bad_frame) ws ≡ false → list_any (entry_is lacks_groups) ws ≡ false
    → list_any (entry_is (lacks_range_key l.columns)) ws ≡ false
    → are_windows ts (entries_made l ws) ≡ true
named_windows l ts [] a b g r = refl
named_windows l ts (w ∷ ws) a b g r =
    let p = or_parts _ _ b in
    let q = or_parts _ _ g in
    let s = or_parts _ _ r in
    and_from _ _ (window_typed l ts w.window a.0 (p.0, q.0, s.0)) (named_windows l ts ws a.1 p.1 q.1 s.1)

-- those of calls
pub own_typed : (l : Layout) (ts : List DataType) (ws : List NamedWindow) (reach : Reach) → AreTyped l ts ws
    → some_reach (sees_misfit l ts) reach ≡ false → is_window_typed l.columns reach ≡ true
    → own_window_is ws has_bad_frame reach ≡ false → own_window_is ws lacks_groups reach ≡ false
    → own_window_is ws (lacks_range_key l.columns) reach ≡ false → are_windows ts (window_of_reach l ws reach) ≡ true
own_typed l ts ws ItsGroup a e t b g r = refl
own_typed l ts ws (ThatWindow window) a e t b g r = refl
own_typed l ts ws (OwnWindow copied us ks frame) a e t b g r =
    let v = reach_values l ts copied us ks frame e t in
    and_from _ _ (window_typed l ts (expand ws copied us ks frame) (expanded_typed l ts ws copied us ks frame a v.0 v.1) (b, g, r)) refl
