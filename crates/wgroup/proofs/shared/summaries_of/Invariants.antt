use Rattle.std.proofs.Common.{◌≡◌, Some, length}
use Rattle.waggregate.specs.Feeding.{values_of}
use Rattle.wgroup.specs.Shared.{AllLookFor, AreKnown}
use Rattle.wgroup.proofs.shared.summaries_of.Given as goal

abbrev pub invariant-loop-groups : goal.invariant-loop-groups
invariant-loop-groups l = record {
  known : AreKnown (values_of l.argument) l.sets l.summaries.items;
  asked : AllLookFor (Some l.extremes) l.summaries.items;
  as_many : length l.summaries.items ≡ l.groups-index;
}
