use Rattle.std.proofs.Common.{◌≡◌, drop}
use Rattle.std.specs.List.{slice_get}
use Rattle.wframe.specs.Places.{spans_places}
use Rattle.wplaces.proofs.frame_values.place_at.Given as goal

abbrev pub invariant-loop-span : goal.invariant-loop-span
invariant-loop-span l = slice_get (spans_places (drop l.span-index l.spans)) l.left ≡ slice_get (spans_places l.spans) l.before
