use Rattle.std.proofs.Common.{◌≡◌, take}
use Rattle.std.specs.List.{list_any}
use Rattle.wrows.specs.Picked.{is_text}
use Rattle.wslide.specs.Aggregates.{picked_values}
use Rattle.waggregate.specs.Feeding.{values_of}
use Rattle.waggregate.proofs.picking.has_text.Given as goal

abbrev pub invariant-loop-row : goal.invariant-loop-row
invariant-loop-row l = l.found ≡ list_any is_text (picked_values (values_of l.argument) (take l.row-index l.rows))
