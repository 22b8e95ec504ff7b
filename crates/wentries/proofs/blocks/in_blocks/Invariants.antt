use Rattle.std.proofs.Common.{◌≡◌, ◌++◌, drop}
use Rattle.wentries.specs.Blocks.{AreFilled, flat, longest}
use Rattle.wentries.proofs.blocks.in_blocks.Given as goal

abbrev pub invariant-entries : goal.invariant-entries
invariant-entries l = record {
  same : flat l.blocks.items ++ drop l.entry-index l.entries ≡ l.entries;
  filled : AreFilled longest l.blocks.items;
}
