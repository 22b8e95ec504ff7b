use Rattle.std.proofs.Common.{◌≤◌, ◌<◌, ◌-◌, suc, get_or, length}
use Rattle.wset.proofs.starts.live_home.Given as goal

abbrev pub invariant-search : goal.invariant-search
invariant-search l = record {
  order : l.low ≤ l.high;
  in_range : l.high < length l.starts;
  before : get_or l.starts l.low 0 ≤ l.number;
  behind : suc l.high < length l.starts → l.number < get_or l.starts (suc l.high) 0;
}

abbrev pub decreases-search : goal.decreases-search
decreases-search l = l.high - l.low
