-- The frame of a window, as a partition has it (<window frame clause>).
use Rattle.wquery.specs.declared.frame.FrameMode as query_mode
use Rattle.wquery.specs.declared.frame.FrameMode.TheVariants as query_modes
use Rattle.wquery.specs.declared.frame.FrameBound as query_bound
use Rattle.wquery.specs.declared.frame.FrameBound.TheVariants as query_bounds
use Rattle.wquery.specs.declared.frame.FrameExclusion as query_exclusion
use Rattle.wquery.specs.declared.frame.FrameExclusion.TheVariants as query_exclusions
use Rattle.wplan.specs.declared.resolved.ResolvedFrame.{ResolvedFrame}
use Rattle.wframe.specs.declared.frame.Frame.{Frame}
use Rattle.wframe.specs.declared.frame.FrameMode.{FrameMode}
use Rattle.wframe.specs.declared.frame.FrameMode.TheVariants.{Rows, Range, Groups}
use Rattle.wframe.specs.declared.frame.FrameBound.{FrameBound}
use Rattle.wframe.specs.declared.frame.FrameBound.TheVariants.{UnboundedPreceding, Preceding, CurrentRow, Following, UnboundedFollowing}
use Rattle.wframe.specs.declared.frame.FrameExclusion.{FrameExclusion}
use Rattle.wframe.specs.declared.frame.FrameExclusion.TheVariants as exclusions

abbrev pub mode_of : query_mode.FrameMode → FrameMode
mode_of query_modes.Rows = Rows
mode_of query_modes.Range = Range
mode_of query_modes.Groups = Groups

abbrev pub bound_of : query_bound.FrameBound → FrameBound
bound_of query_bounds.UnboundedPreceding = UnboundedPreceding
bound_of (query_bounds.Preceding n) = Preceding n
bound_of query_bounds.CurrentRow = CurrentRow
bound_of (query_bounds.Following n) = Following n
bound_of query_bounds.UnboundedFollowing = UnboundedFollowing

abbrev pub exclusion_of : query_exclusion.FrameExclusion → FrameExclusion
exclusion_of query_exclusions.CurrentRow = exclusions.CurrentRow
exclusion_of query_exclusions.Group = exclusions.Group
exclusion_of query_exclusions.Ties = exclusions.Ties
exclusion_of query_exclusions.NoOthers = exclusions.NoOthers

abbrev pub frame_of : ResolvedFrame → Frame
frame_of f = record { mode = mode_of f.mode; start = bound_of f.start; end = bound_of f.end; exclusion = exclusion_of f.exclusion }
