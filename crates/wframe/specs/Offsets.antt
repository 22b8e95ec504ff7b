-- What a frame's offsets ask: in RANGE, of the window ordering; in RANGE and GROUPS, that ends are kept.
use Rattle.std.specs.Prelude.{Bool, true, false, ◌&&◌, ◌||◌}
use Rattle.wframe.specs.declared.frame.Frame.{Frame}
use Rattle.wframe.specs.declared.frame.FrameMode.{FrameMode}
use Rattle.wframe.specs.declared.frame.FrameMode.TheVariants.{Rows, Range, Groups}
use Rattle.wframe.specs.Bounds.{is_offset}
use Rattle.wframe.specs.Ties.{takes_groups}

abbrev pub is_range : FrameMode → Bool
is_range Rows = false
is_range Range = true
is_range Groups = false

abbrev pub is_groups : FrameMode → Bool
is_groups Rows = false
is_groups Range = false
is_groups Groups = true

-- whether a frame moves keys
abbrev pub has_range_offset : Frame → Bool
has_range_offset f = is_range f.mode && (is_offset f.start || is_offset f.end)

-- whether a frame moves keys or group numbers; without an offset its ends follow from the row's peers, in ROWS from its place
abbrev pub moves_groups : Frame → Bool
moves_groups f = takes_groups f.mode && (is_offset f.start || is_offset f.end)
