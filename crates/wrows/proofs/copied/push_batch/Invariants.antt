use Rattle.std.proofs.Common.{◌≡◌, ◌++◌, map, take}
use Rattle.std.specs.List.{flat_map}
use Rattle.wvalues.specs.Meaning.{meaning}
use Rattle.wrows.specs.Extended.{picked_of}
use Rattle.wrows.proofs.copied.push_batch.Given as goal

abbrev pub invariant-loop-number : goal.invariant-loop-number
invariant-loop-number l = map meaning l.cells.items ≡ map meaning l.fn.cells.items ++ flat_map
    (picked_of l.places l.extended) (take l.number-index l.numbers)
