use Rattle.std.proofs.Common.{◌≡◌}
use Rattle.wframe.specs.Places.{places}
use Rattle.wplanner.proofs.table.column_places.Given as goal

abbrev pub invariant-loop-column : goal.invariant-loop-column
invariant-loop-column l = l.columns.items ≡ places l.column
