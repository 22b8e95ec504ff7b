use Rattle.std.proofs.Common.{drop}
use Rattle.std.specs.List.{AllByRecursion}
use Rattle.wentries.specs.Blocks.{flat}
use Rattle.wset.specs.Merging.{IsKnownTo}
use Rattle.wset.proofs.merge.teaches.Given as goal

abbrev pub invariant-theirs : goal.invariant-theirs
invariant-theirs l = record {
  known : AllByRecursion (IsKnownTo (flat l.ours)) (flat (drop l.block-index l.theirs))
      → AllByRecursion (IsKnownTo (flat l.ours)) (flat l.theirs);
  new : AllByRecursion (IsKnownTo (flat l.ours)) (flat l.theirs)
      → AllByRecursion (IsKnownTo (flat l.ours)) (flat (drop l.block-index l.theirs));
}
