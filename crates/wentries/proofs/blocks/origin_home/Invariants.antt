use Rattle.std.proofs.Common.{◌≡◌, ◌≤◌, ◌<◌, ◌-◌, ◌⊎◌, suc, [], length, get_or, take}
use Rattle.wentries.specs.Entries.{AreOriginsBelow, known_entries}
use Rattle.wentries.specs.Blocks.{flat}
use Rattle.wentries.proofs.blocks.origin_home.Given as goal

abbrev pub invariant-search : goal.invariant-search
invariant-search l = record {
  order : l.low ≤ l.high;
  in_range : l.high < length l.blocks;
  before : AreOriginsBelow l.origin (known_entries (flat (take l.low l.blocks)));
  reached : (suc l.high ≡ length l.blocks) ⊎ (AreOriginsBelow l.origin (known_entries (get_or l.blocks l.high [])) → ⊥);
}

abbrev pub decreases-search : goal.decreases-search
decreases-search l = l.high - l.low
