use Rattle.std.proofs.Common.{◌≡◌, ◌≤◌, length, take}
use Rattle.wshown.specs.Shown.{line_start}
use Rattle.wshown.proofs.places.line_start.Given as goal

abbrev pub invariant-bytes : goal.invariant-bytes
invariant-bytes l = record {
  within : l.start ≤ length l.query;
  same : line_start (take l.fn.place l.query) ≡ line_start (take l.start l.query);
}

abbrev pub decreases-bytes : goal.decreases-bytes
decreases-bytes l = l.start
