-- What a window and its functions have to keep (<window clause>, <ntile function>, <nth value function>).
use Rattle.std.specs.Prelude.{Bool, true, nat_le, not, ◌||◌, ◌==◌, length}
use Rattle.wplan.specs.Plans.{WindowPlan, FunctionPlan, RowNumber, Rank, DenseRank, Tile}
use Rattle.wplan.specs.Plans.{Lag, Lead, FirstValue, LastValue, NthValue, Aggregated}
use Rattle.wframe.specs.Offsets.{has_range_offset}
use Rattle.wcalls.specs.Frames.{frame_of}

-- an offset in RANGE has one key
abbrev pub is_sound_window : WindowPlan → Bool
is_sound_window w = not (has_range_offset (frame_of w.frame)) || (length w.keys == 1)

-- tiles are one at least, and places count from 1
abbrev pub is_sound_function : FunctionPlan → Bool
is_sound_function (Tile n) = nat_le 1 n
is_sound_function (NthValue t n) = nat_le 1 n
is_sound_function RowNumber = true
is_sound_function Rank = true
is_sound_function DenseRank = true
is_sound_function (Lag t n d) = true
is_sound_function (Lead t n d) = true
is_sound_function (FirstValue t) = true
is_sound_function (LastValue t) = true
is_sound_function (Aggregated a) = true
