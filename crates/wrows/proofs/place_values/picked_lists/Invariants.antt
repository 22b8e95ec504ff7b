use Rattle.std.proofs.Common.{◌≡◌, map}
use Rattle.std.specs.List.{flat_map}
use Rattle.wvalues.specs.Meaning.{meaning}
use Rattle.wframe.specs.Places.{places}
use Rattle.wrows.specs.Extended.{picked_of}
use Rattle.wrows.proofs.place_values.picked_lists.Given as goal

abbrev pub invariant-loop-row : goal.invariant-loop-row
invariant-loop-row l = map meaning l.cells.items ≡ flat_map (picked_of l.places l.extended) (places l.row)
