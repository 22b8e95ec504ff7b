use Rattle.std.proofs.Common.{◌≤◌, ◌<◌, ◌-◌, suc, length, take, drop}
use Rattle.wentries.specs.Entries.{AreBelow, known_entries, AreBehind}
use Rattle.wentries.specs.Blocks.{flat}
use Rattle.wentries.proofs.blocks.home.Given as goal

abbrev pub invariant-search : goal.invariant-search
invariant-search l = record {
  order : l.low ≤ l.high;
  in_range : l.high < length l.blocks;
  before : AreBelow l.name (known_entries (flat (take l.low l.blocks)));
  behind : AreBehind l.name (known_entries (flat (drop (suc l.high) l.blocks)));
}

abbrev pub decreases-search : goal.decreases-search
decreases-search l = l.high - l.low
