use Rattle.std.proofs.Common.{◌≡◌, length, map, take}
use Rattle.wvalues.specs.Meaning.{meaning}
use Rattle.wframe.specs.Cells.{meanings}
use Rattle.waggregate.proofs.grouped.lent_values.Given as goal

abbrev pub invariant-loop-value : goal.invariant-loop-value
invariant-loop-value l = record {
  value : meanings l.lent.items ≡ map meaning (take l.value-index l.values);
  len : length l.lent.items ≡ l.value-index;
}
