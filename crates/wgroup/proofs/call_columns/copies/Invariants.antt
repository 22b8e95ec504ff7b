use Rattle.std.proofs.Common.{◌≡◌, length, map, take}
use Rattle.wvalues.specs.Meaning.{meaning}
use Rattle.wgroup.proofs.call_columns.copies.Given as goal

abbrev pub invariant-loop : goal.invariant-loop
invariant-loop l = record {
  value : map meaning l.column.items ≡ map (λ i. meaning l.value) (take l.index l.order);
  len : length l.column.items ≡ l.index;
}
