use Rattle.std.proofs.Common.{◌≡◌, drop, None}
use Rattle.std.specs.List.{last_or}
use Rattle.wframe.specs.Places.{spans_places}
use Rattle.wplaces.proofs.frame_values.last_place_in.Given as goal

abbrev pub invariant-loop-span : goal.invariant-loop-span
invariant-loop-span l = last_or l.last (spans_places (drop l.span-index l.spans)) ≡ last_or None (spans_places l.spans)
