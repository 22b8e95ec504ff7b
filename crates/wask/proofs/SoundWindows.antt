-- A query whose RANGE offsets have their key has sound windows.
use Rattle.std.proofs.Common.{◌≡◌, Bool, true, false, not, ◌&&◌, ◌||◌, ◌==◌, List, [], ◌∷◌, length}
use Rattle.std.proofs.Common.{Option, Some, None, refl, sym, ◌∙◌, ap, ap₂, true≢false}
use Rattle.std.specs.List.{list_all, list_any}
use Rattle.std.proofs.lemmas.Bool.{or_parts, and_parts, not-true}
use Rattle.std.proofs.lemmas.List.Folds.{list_all-append}
use Rattle.wquery.specs.declared.frame.Frame.{Frame}
use Rattle.wquery.specs.declared.frame.FrameMode.{FrameMode}
use Rattle.wquery.specs.declared.frame.FrameMode.TheVariants.{Rows, Range, Groups}
use Rattle.wquery.specs.declared.frame.FrameBound.{FrameBound}
use Rattle.wquery.specs.declared.frame.FrameBound.TheVariants.{UnboundedPreceding, Preceding, CurrentRow, Following, UnboundedFollowing}
use Rattle.wquery.specs.Tree.{Tree, Invoked, Reach, ItsGroup, ThatWindow, OwnWindow, Keys, NoKeys, MoreKeys}
use Rattle.wnodes.specs.Bounds.{end_of}
use Rattle.wscope.specs.Types.{Titled}
use Rattle.wscope.specs.Windows.{NamedWindow, Expanded, expand}
use Rattle.wwindows.specs.Windows as rules
use Rattle.wwindows.specs.Windows.{entry_is, lacks_range_key, own_window_is, reach_is}
use Rattle.wframe.specs.Bounds as frames
use Rattle.wframe.specs.Offsets as frames_offsets
use Rattle.wcalls.specs.Frames.{bound_of, frame_of, mode_of}
use Rattle.wcalls.specs.Sound.{is_sound_window}
use Rattle.wbinding.specs.Resolving.{Layout}
use Rattle.wresolve.specs.Selecting.{entries_made, frame_made, keys_made, own_window, own_windows, window_made, window_of_reach}
use Rattle.wask.proofs.Nodes.{is_kept}

-- the rule and the frames mean one thing by RANGE and by an offset
same_mode : (m : FrameMode) → frames_offsets.is_range (mode_of m) ≡ rules.is_range m
same_mode Rows = refl
same_mode Range = refl
same_mode Groups = refl

same_bound : (b : FrameBound) → frames.is_offset (bound_of b) ≡ rules.is_offset b
same_bound UnboundedPreceding = refl
same_bound (Preceding n) = refl
same_bound CurrentRow = refl
same_bound (Following n) = refl
same_bound UnboundedFollowing = refl

-- a key that RANGE may have is the only one
one_key : (cs : List Titled) (l : Layout) (ks : Keys) → rules.has_range_key cs ks ≡ true → (length (keys_made l ks) == 1) ≡ true
one_key cs l (MoreKeys t descending nulls NoKeys) e = refl
one_key cs l (MoreKeys t descending nulls (MoreKeys u down first more)) e = absurd (true≢false (sym e))
one_key cs l NoKeys e = absurd (true≢false (sym e))

keyed : (moves key one : Bool) → (key ≡ true → one ≡ true) → (moves && not key) ≡ false → (not moves || one) ≡ true
keyed false key one only e = refl
keyed true true one only e = only refl
keyed true false one only e = absurd (true≢false e)

framed : (cs : List Titled) (l : Layout) (ks : Keys) (f : Frame)
    → ((rules.is_range f.mode && (rules.is_offset f.start || rules.is_offset (end_of f)))
    && not (rules.has_range_key cs ks)) ≡ false
    → (not (frames_offsets.has_range_offset (frame_of (frame_made (Some f)))) || (length (keys_made l ks) == 1)) ≡ true
framed cs l ks f e = ap (λ (b : Bool). not b || (length (keys_made l ks) == 1)) moves ∙ keyed _ _ _ (one_key cs l ks) e
  where
    moves : frames_offsets.has_range_offset (frame_of (frame_made (Some f)))
        ≡ (rules.is_range f.mode && (rules.is_offset f.start || rules.is_offset (end_of f)))
    moves = ap₂ (λ a b. a && b) (same_mode f.mode) (ap₂ (λ a b. a || b) (same_bound f.start) (same_bound (end_of f)))

expanded : (cs : List Titled) (l : Layout) (w : Expanded) → lacks_range_key cs w ≡ false → is_sound_window (window_made l w) ≡ true
expanded cs l w e = go w.frame e
  where
    go : (f : Option Frame) → rules.in_frame f
        (λ f. (rules.is_range f.mode && (rules.is_offset f.start || rules.is_offset (end_of f)))
        && not (rules.has_range_key cs w.order)) ≡ false
        → (not (frames_offsets.has_range_offset (frame_of (frame_made f))) || (length (keys_made l w.order) == 1)) ≡ true
    go None none = refl
    go (Some f) some = framed cs l w.order f some

-- those of WINDOW entries, used or not
pub entries_sound : (cs : List Titled) (l : Layout) (ws : List NamedWindow) → list_any (entry_is (lacks_range_key cs)) ws
    ≡ false → list_all is_sound_window (entries_made l ws) ≡ true
entries_sound cs l [] e = refl
entries_sound cs l (w ∷ ws) e =
    let parts = or_parts (lacks_range_key cs w.window) (list_any (entry_is (lacks_range_key cs)) ws) e in
    ap₂ (λ a b. a && b) (expanded cs l w.window parts.0) (entries_sound cs l ws parts.1)

-- a window of a call's own that lacks its key
abbrev pub lacks_own_key : List NamedWindow → List Titled → Tree → Bool
lacks_own_key ws cs = reach_is (own_window_is ws (lacks_range_key cs))

reached : (cs : List Titled) (l : Layout) (ws : List NamedWindow) (reach : Reach)
    → own_window_is ws (lacks_range_key cs) reach ≡ false → list_all is_sound_window (window_of_reach l ws reach) ≡ true
reached cs l ws ItsGroup e = refl
reached cs l ws (ThatWindow name) e = refl
reached cs l ws (OwnWindow copied partition order frame) e =
    ap₂ (λ a b. a && b) (expanded cs l (expand ws copied partition order frame) e) refl

own : (cs : List Titled) (l : Layout) (ws : List NamedWindow) (t : Tree) → lacks_own_key ws cs t ≡ false
    → list_all is_sound_window (own_window l ws t) ≡ true
own cs l ws (Invoked name given filter reach) e = reached cs l ws reach e
own cs l ws t e = refl

-- those that calls have of their own
pub own_sound : (s : Tree → Bool) (cs : List Titled) (l : Layout) (ws : List NamedWindow) (ts : List Tree)
    → list_all (is_kept s (lacks_own_key ws cs)) ts ≡ true → list_all is_sound_window (own_windows l ws ts) ≡ true
own_sound s cs l ws [] e = refl
own_sound s cs l ws (t ∷ ts) e =
    list_all-append is_sound_window (own_window l ws t) (own_windows l ws ts)
    ∙ ap₂ (λ a b. a && b) (own cs l ws t
    (not-true (lacks_own_key ws cs t) (and_parts (s t) (not (lacks_own_key ws cs t)) parts.0).1)) (own_sound s cs l ws ts parts.1)
  where
    parts : (is_kept s (lacks_own_key ws cs) t ≡ true) × (list_all (is_kept s (lacks_own_key ws cs)) ts ≡ true)
    parts = and_parts (is_kept s (lacks_own_key ws cs) t) (list_all (is_kept s (lacks_own_key ws cs)) ts) e
