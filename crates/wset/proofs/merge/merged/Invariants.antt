use Rattle.std.proofs.Common.{◌+◌, length}
use Rattle.wsegment.specs.Declaration.{Declaration}
use Rattle.wentries.specs.Entries.{AllHeldBy, IsRising, known_entries}
use Rattle.wset.specs.Merging.{join_lists}
use Rattle.wset.proofs.Tails.{MergesOn}
use Rattle.wset.proofs.merge.merged.Given as goal

abbrev pub invariant-merge : goal.invariant-merge
invariant-merge l = record {
  merges : MergesOn l.all.items (join_lists (known_entries l.ours) (known_entries l.theirs))
      (join_lists (known_entries l.fn.ours) (known_entries l.fn.theirs));
  ours : IsRising l.ours;
  theirs : IsRising l.theirs;
  read : (d : Declaration) → AllHeldBy d l.fn.ours → AllHeldBy d l.fn.theirs → AllHeldBy d l.all.items × AllHeldBy d l.ours
      × AllHeldBy d l.theirs;
}

abbrev pub decreases-merge : goal.decreases-merge
decreases-merge l = length l.ours + length l.theirs
