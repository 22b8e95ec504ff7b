-- Frames of a small table: day 1, 2, 2, 4 and amount 10, 20, 5, null.
use Rattle.std.proofs.Common.{◌≡◌, ℕ, pos, true, false, List, [], ◌∷◌, length, map, refl}
use Rattle.wvalues.specs.declared.key.SortKey.{SortKey}
use Rattle.wvalues.specs.Meaning.{Meaning, Null, Int}
use Rattle.wframe.specs.declared.frame.FrameMode.TheVariants.{Rows, Groups, Range}
use Rattle.wframe.specs.declared.frame.FrameBound.TheVariants.{UnboundedPreceding, Preceding, CurrentRow, Following}
use Rattle.wframe.specs.declared.frame.FrameExclusion.TheVariants as exclusion
use Rattle.wframe.specs.declared.frame.Frame.{Frame}
use Rattle.wframe.specs.Places.{places}
use Rattle.wframe.specs.Frame.{frame_rows}

abbrev up : List SortKey
up = record { col = 0; desc = false; nulls_first = false } ∷ []

abbrev down : List SortKey
down = record { col = 0; desc = true; nulls_first = true } ∷ []

abbrev days : List (List Meaning)
days = (Int (pos 1) ∷ []) ∷ (Int (pos 2) ∷ []) ∷ (Int (pos 2) ∷ []) ∷ (Int (pos 4) ∷ []) ∷ []

abbrev days_down : List (List Meaning)
days_down = (Int (pos 4) ∷ []) ∷ (Int (pos 2) ∷ []) ∷ (Int (pos 2) ∷ []) ∷ (Int (pos 1) ∷ []) ∷ []

-- the amounts in order: 5, 10, 20, null
abbrev amounts : List (List Meaning)
amounts = (Int (pos 5) ∷ []) ∷ (Int (pos 10) ∷ []) ∷ (Int (pos 20) ∷ []) ∷ (Null ∷ []) ∷ []

abbrev all_frames : List SortKey → List (List Meaning) → Frame → List (List ℕ)
all_frames ks keys f = map (frame_rows (record { order = ks; keys = keys; frame = f })) (places (length keys))

abbrev nulls_up : List SortKey
nulls_up = record { col = 0; desc = false; nulls_first = true } ∷ []

abbrev amounts_after_null : List (List Meaning)
amounts_after_null = (Null ∷ []) ∷ (Int (pos 5) ∷ []) ∷ (Int (pos 10) ∷ []) ∷ (Int (pos 20) ∷ []) ∷ []

-- up to the last peer
to_last_peer : all_frames up days (record {
  mode = Range;
  start = UnboundedPreceding;
  end = CurrentRow;
  exclusion =
      exclusion.NoOthers;
}) ≡ (0 ∷ []) ∷ (0 ∷ 1 ∷ 2 ∷ []) ∷ (0 ∷ 1 ∷ 2 ∷ []) ∷ (0 ∷ 1 ∷ 2 ∷ 3 ∷ []) ∷ []
to_last_peer = refl

-- a day before and a day after
around_days : all_frames up days (record {
  mode = Range;
  start = Preceding 1;
  end = Following 1;
  exclusion =
      exclusion.NoOthers;
}) ≡ (0 ∷ 1 ∷ 2 ∷ []) ∷ (0 ∷ 1 ∷ 2 ∷ []) ∷ (0 ∷ 1 ∷ 2 ∷ []) ∷ (3 ∷ []) ∷ []
around_days = refl

-- the days going down: 4, 2, 2, 1; a day before is a greater day
greater_days : all_frames down days_down (record {
  mode = Range;
  start = Preceding 1;
  end = CurrentRow;
  exclusion =
      exclusion.NoOthers;
}) ≡ (0 ∷ []) ∷ (1 ∷ 2 ∷ []) ∷ (1 ∷ 2 ∷ []) ∷ (1 ∷ 2 ∷ 3 ∷ []) ∷ []
greater_days = refl

-- five less and five more: the null has no other row
near_amounts : all_frames up amounts (record {
  mode = Range;
  start = Preceding 5;
  end = Following 5;
  exclusion =
      exclusion.NoOthers;
}) ≡ (0 ∷ 1 ∷ []) ∷ (0 ∷ 1 ∷ []) ∷ (2 ∷ []) ∷ (3 ∷ []) ∷ []
near_amounts = refl

-- the group before and the row's own, without its peers
groups_without_ties : all_frames up days (record {
  mode = Groups;
  start = Preceding 1;
  end = CurrentRow;
  exclusion =
      exclusion.Ties;
}) ≡ (0 ∷ []) ∷ (0 ∷ 1 ∷ []) ∷ (0 ∷ 2 ∷ []) ∷ (1 ∷ 2 ∷ 3 ∷ []) ∷ []
groups_without_ties = refl

-- the row is not added where the frame lacks it
next_two_without_ties : all_frames up days (record {
  mode = Rows;
  start = Following 1;
  end = Following 2;
  exclusion =
      exclusion.Ties;
}) ≡ (1 ∷ 2 ∷ []) ∷ (3 ∷ []) ∷ (3 ∷ []) ∷ [] ∷ []
next_two_without_ties = refl

-- the rows next to it
neighbors : all_frames up days (record {
  mode = Rows;
  start = Preceding 1;
  end = Following 1;
  exclusion =
      exclusion.CurrentRow;
}) ≡ (1 ∷ []) ∷ (0 ∷ 2 ∷ []) ∷ (1 ∷ 3 ∷ []) ∷ (2 ∷ []) ∷ []
neighbors = refl

-- an end before the start
none_back : all_frames up days (record {
  mode = Rows;
  start = Preceding 7;
  end = Preceding 8;
  exclusion =
      exclusion.NoOthers;
}) ≡ [] ∷ [] ∷ [] ∷ [] ∷ []
none_back = refl

-- nulls first: an unbounded side takes in the null that lies on it
nulls_before : all_frames nulls_up amounts_after_null (record {
  mode = Range;
  start = UnboundedPreceding;
  end = Following 5;
  exclusion = exclusion.NoOthers;
}) ≡ (0 ∷ []) ∷ (0 ∷ 1 ∷ 2 ∷ []) ∷ (0 ∷ 1 ∷ 2 ∷ []) ∷ (0 ∷ 1 ∷ 2 ∷ 3 ∷ []) ∷ []
nulls_before = refl

-- the greatest offsets reach all days
farthest : all_frames up days (record {
  mode = Range;
  start = Preceding 9223372036854775807;
  end =
      Following 9223372036854775807;
  exclusion = exclusion.NoOthers;
}) ≡ (0 ∷ 1 ∷ 2 ∷ 3 ∷ []) ∷ (0 ∷ 1 ∷ 2 ∷ 3 ∷ [])
    ∷ (0 ∷ 1 ∷ 2 ∷ 3 ∷ []) ∷ (0 ∷ 1 ∷ 2 ∷ 3 ∷ []) ∷ []
farthest = refl
