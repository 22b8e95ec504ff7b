-- The rules on windows: Q19 to Q24. (SQL, `<window clause>` and `<window frame clause>`; PostgreSQL, Window Function Calls.)
use Rattle.std.specs.Prelude.{ℕ, suc, Bool, true, false, ◌||◌, ◌&&◌, ◌^◌, ◌==◌, not, List}
use Rattle.std.specs.Prelude.{[], ◌∷◌, Option, Some, None, is_some, nat_le, nat_lt, take}
use Rattle.std.specs.List.{list_any}
use Rattle.std.specs.Str.{bytes_eq}
use Rattle.wquery.specs.declared.frame.Frame.{Frame}
use Rattle.wquery.specs.declared.frame.FrameMode.{FrameMode}
use Rattle.wquery.specs.declared.frame.FrameMode.TheVariants.{Rows, Range, Groups}
use Rattle.wquery.specs.declared.frame.FrameBound.{FrameBound}
use Rattle.wquery.specs.declared.frame.FrameBound.TheVariants.{Preceding, Following}
use Rattle.wquery.specs.Tree.{Tree, Invoked, Keys, NoKeys, MoreKeys, keys, Trees, NoTrees, MoreTrees}
use Rattle.wquery.specs.Tree.{trees, Reach, ItsGroup, ThatWindow, OwnWindow, WindowTree}
use Rattle.wquery.specs.QueryTree.{Clauses, EntryTree}
use Rattle.wnodes.specs.Bounds.{place_of_bound, end_of}
use Rattle.wscope.specs.declared.data_type.DataType.{DataType}
use Rattle.wscope.specs.declared.data_type.DataType.TheVariants.{Text}
use Rattle.wscope.specs.Types.{Titled, type_of}
use Rattle.wscope.specs.Scope.{some_anywhere}
use Rattle.wscope.specs.Windows.{NamedWindow, Expanded, window_named, or_none, expand, expand_all}
use Rattle.wscope.specs.Finding.{finds}

-- the WINDOW entries with what they copy
abbrev pub windows_of : Clauses → List NamedWindow
windows_of c = expand_all [] c.windows

-- this holds of a WINDOW entry, the first of which has this place, and the windows before it
abbrev pub some_entry_after : List NamedWindow → ℕ → (List NamedWindow → WindowTree → Bool) → List EntryTree → Bool
some_entry_after ws place holds [] = false
some_entry_after ws place holds (e ∷ es) = holds (take place ws) e.window || some_entry_after ws (suc place) holds es

-- this holds of what stands behind OVER
abbrev pub reach_is : (Reach → Bool) → Tree → Bool
reach_is holds (Invoked name given filter reach) = holds reach
reach_is holds _ = false

-- a window name that none of these windows has
abbrev pub is_unknown_window : List NamedWindow → Option (List ℕ) → Bool
is_unknown_window ws None = false
is_unknown_window ws (Some name) = not (is_some (window_named ws name))

abbrev pub copies_unknown : List NamedWindow → WindowTree → Bool
copies_unknown ws w = is_unknown_window ws w.copied

abbrev pub is_over_unknown : List NamedWindow → Reach → Bool
is_over_unknown ws ItsGroup = false
is_over_unknown ws (ThatWindow window) = is_unknown_window ws (Some window)
is_over_unknown ws (OwnWindow copied partition order frame) = is_unknown_window ws copied

-- Q19: a window name that no entry has, or in an entry no earlier entry
abbrev pub breaks_window_names : List NamedWindow → List Titled → Clauses → Bool
breaks_window_names ws cs c = some_entry_after ws 0 copies_unknown c.windows || some_anywhere cs c (finds (reach_is (is_over_unknown ws)))

abbrev pub has_entry_name : List ℕ → EntryTree → Bool
has_entry_name name e = bytes_eq e.name name

-- Q20: two WINDOW entries of one name
abbrev pub breaks_entries : List EntryTree → Bool
breaks_entries [] = false
breaks_entries (e ∷ es) = list_any (has_entry_name e.name) es || breaks_entries es

abbrev pub has_keys : Keys → Bool
has_keys NoKeys = false
has_keys (MoreKeys t descending nulls more) = true

abbrev pub has_trees : Trees → Bool
has_trees NoTrees = false
has_trees (MoreTrees t ts) = true

-- a copy with PARTITION BY of its own, with ORDER BY where the copied window has one, or of a window with a frame clause
abbrev pub is_bad_copy : List NamedWindow → Option (List ℕ) → Trees → Keys → Bool
is_bad_copy ws None partition order = false
is_bad_copy ws (Some name) partition order =
    has_trees partition || ((has_keys order && has_keys (or_none (window_named ws name)).order)
    || is_some (or_none (window_named ws name)).frame)

abbrev pub copies_badly : List NamedWindow → WindowTree → Bool
copies_badly ws w = is_bad_copy ws w.copied (trees w.partition) (keys w.order)

abbrev pub is_over_bad_copy : List NamedWindow → Reach → Bool
is_over_bad_copy ws (OwnWindow copied partition order frame) = is_bad_copy ws copied partition order
is_over_bad_copy ws _ = false

-- Q21: a copy of a window in a WINDOW entry or behind OVER that adds what it may not
abbrev pub breaks_copies : List NamedWindow → List Titled → Clauses → Bool
breaks_copies ws cs c = some_entry_after ws 0 copies_badly c.windows || some_anywhere cs c (finds (reach_is (is_over_bad_copy ws)))

-- this holds of the window of a call that has one of its own
abbrev pub own_window_is : List NamedWindow → (Expanded → Bool) → Reach → Bool
own_window_is ws holds (OwnWindow copied partition order frame) = holds (expand ws copied partition order frame)
own_window_is ws holds _ = false

-- this holds of the window of an entry
abbrev pub entry_is : (Expanded → Bool) → NamedWindow → Bool
entry_is holds w = holds w.window

-- this holds of some window of the query, with what it copies, used or not
abbrev pub some_window : List NamedWindow → List Titled → Clauses → (Expanded → Bool) → Bool
some_window ws cs c holds = list_any (entry_is holds) ws || some_anywhere cs c (finds (reach_is (own_window_is ws holds)))

-- this holds of a frame clause that is there
abbrev pub in_frame : Option Frame → (Frame → Bool) → Bool
in_frame None holds = false
in_frame (Some f) holds = holds f

-- an offset of 2^63 or more
abbrev pub is_long : FrameBound → Bool
is_long (Preceding n) = nat_le (2 ^ 63) n
is_long (Following n) = nat_le (2 ^ 63) n
is_long _ = false

-- the start is UNBOUNDED FOLLOWING, the end is UNBOUNDED PRECEDING, the end is of an earlier kind than the start, or an
-- offset is too long
abbrev pub has_bad_bounds : Frame → Bool
has_bad_bounds f =
    (place_of_bound f.start == 4) || ((place_of_bound (end_of f) == 0)
    || (nat_lt (place_of_bound (end_of f)) (place_of_bound f.start) || (is_long f.start || is_long (end_of f))))

abbrev pub has_bad_frame : Expanded → Bool
has_bad_frame w = in_frame w.frame has_bad_bounds

-- Q22: a pair of bounds that is none, or an offset of 2^63 or more
abbrev pub breaks_bounds : List NamedWindow → List Titled → Clauses → Bool
breaks_bounds ws cs c = some_window ws cs c has_bad_frame

abbrev pub is_groups : FrameMode → Bool
is_groups Rows = false
is_groups Range = false
is_groups Groups = true

abbrev pub lacks_groups : Expanded → Bool
lacks_groups w = in_frame w.frame (λ f. is_groups f.mode && not (has_keys w.order))

-- Q23: GROUPS in a window without ORDER BY
abbrev pub breaks_groups : List NamedWindow → List Titled → Clauses → Bool
breaks_groups ws cs c = some_window ws cs c lacks_groups

abbrev pub is_range : FrameMode → Bool
is_range Rows = false
is_range Range = true
is_range Groups = false

abbrev pub is_offset : FrameBound → Bool
is_offset (Preceding n) = true
is_offset (Following n) = true
is_offset _ = false

abbrev pub is_text_type : DataType → Bool
is_text_type Text = true
is_text_type _ = false

-- exactly one key, which is no text
abbrev pub has_range_key : List Titled → Keys → Bool
has_range_key cs (MoreKeys t descending nulls NoKeys) = not (is_text_type (type_of cs t))
has_range_key cs _ = false

abbrev pub lacks_range_key : List Titled → Expanded → Bool
lacks_range_key cs w = in_frame w.frame (λ f. (is_range f.mode && (is_offset f.start || is_offset (end_of f)))
    && not (has_range_key cs w.order))

-- Q24: RANGE with an offset bound in a window without exactly one key, or whose key is a text
abbrev pub breaks_ranges : List NamedWindow → List Titled → Clauses → Bool
breaks_ranges ws cs c = some_window ws cs c (lacks_range_key cs)
