use Rattle.std.proofs.Common.{drop}
use Rattle.std.specs.List.{AllByRecursion}
use Rattle.wentries.specs.Blocks.{flat}
use Rattle.wset.specs.Merging.{IsKnownTo}
use Rattle.wset.proofs.merge.some_add.Given as goal

abbrev pub invariant-theirs : goal.invariant-theirs
invariant-theirs l = record {
  known : AllByRecursion (IsKnownTo (flat l.ours)) (drop l.entry-index l.theirs) → AllByRecursion (IsKnownTo (flat l.ours)) l.theirs;
  new : AllByRecursion (IsKnownTo (flat l.ours)) l.theirs → AllByRecursion (IsKnownTo (flat l.ours)) (drop l.entry-index l.theirs);
}
