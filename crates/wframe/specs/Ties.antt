-- Frames that cannot tell peers apart.
use Rattle.std.specs.Prelude.{Bool, true, false, ◌&&◌}
use Rattle.wframe.specs.declared.frame.Frame.{Frame}
use Rattle.wframe.specs.declared.frame.FrameMode.{FrameMode}
use Rattle.wframe.specs.declared.frame.FrameMode.TheVariants.{Rows, Range, Groups}
use Rattle.wframe.specs.declared.frame.FrameExclusion.{FrameExclusion}
use Rattle.wframe.specs.declared.frame.FrameExclusion.TheVariants.{CurrentRow, Group, Ties, NoOthers}

-- whether a mode takes peers in together
abbrev pub takes_groups : FrameMode → Bool
takes_groups Rows = false
takes_groups Range = true
takes_groups Groups = true

-- whether an exclusion takes peers out together
abbrev pub leaves_groups : FrameExclusion → Bool
leaves_groups CurrentRow = false
leaves_groups Group = true
leaves_groups Ties = false
leaves_groups NoOthers = true

-- whether a frame holds whole peer groups
abbrev pub holds_groups : Frame → Bool
holds_groups f = takes_groups f.mode && leaves_groups f.exclusion
