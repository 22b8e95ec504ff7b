use Rattle.std.proofs.Common.{◌≡◌, length, take}
use Rattle.wframe.specs.Cells.{meanings}
use Rattle.waggregate.specs.Feeding.{values_of}
use Rattle.waggregate.proofs.feeding.listed.Given as goal

abbrev pub invariant-loop-row : goal.invariant-loop-row
invariant-loop-row l = record {
  value : meanings l.values.items ≡ take l.row (values_of l.argument);
  len : length l.values.items ≡ l.row;
}
