use Rattle.std.proofs.Common.{◌≡◌, ◌≤◌, drop, length}
use Rattle.wprinted.specs.Beside.{values_of}
use Rattle.wprinted.proofs.BackLines.{line_from}
use Rattle.wprinted.proofs.line.write_line.Given as goal

abbrev pub invariant-loop-left : goal.invariant-loop-left
invariant-loop-left l = record {
  written : drop l.at l.line ≡ line_from l.places (values_of l.row) (drop l.end l.fn.line) l.left;
  before : l.at ≤ l.end;
  room : length l.line ≡ length l.fn.line;
  left : l.left ≤ length l.places;
}

abbrev pub decreases-loop-left : goal.decreases-loop-left
decreases-loop-left l = l.left
