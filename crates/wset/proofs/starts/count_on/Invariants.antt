use Rattle.std.proofs.Common.{◌≤◌, ◌-◌, length, vec_capacity}
use Rattle.wset.specs.Running.{AreStarts}
use Rattle.wset.proofs.starts.count_on.Given as goal

abbrev pub invariant-blocks-2 : goal.invariant-blocks-2
invariant-blocks-2 l = record {
  room : length l.blocks ≤ vec_capacity l.starts;
  in_range : length l.starts.items ≤ length l.blocks;
  starts : AreStarts l.blocks l.starts.items;
}

abbrev pub decreases-blocks-2 : goal.decreases-blocks-2
decreases-blocks-2 l = length l.blocks - length l.starts.items
