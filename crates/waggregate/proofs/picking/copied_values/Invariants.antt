use Rattle.std.proofs.Common.{◌≡◌, ◌≤◌, ◌-◌, length, map, take}
use Rattle.wvalues.specs.Meaning.{meaning}
use Rattle.wslide.specs.Aggregates.{picked_values}
use Rattle.waggregate.specs.Feeding.{values_of}
use Rattle.waggregate.proofs.picking.copied_values.Given as goal

abbrev pub invariant-loop-done : goal.invariant-loop-done
invariant-loop-done l = (l.done ≤ length l.rows)
    × (map meaning l.copied.items ≡ picked_values (values_of l.argument) (take l.done l.rows))

abbrev pub decreases-loop-done : goal.decreases-loop-done
decreases-loop-done l = length l.rows - l.done
