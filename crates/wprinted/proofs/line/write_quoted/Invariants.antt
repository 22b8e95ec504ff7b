use Rattle.std.proofs.Common.{◌≡◌, ◌≤◌, ◌++◌, ◌∷◌, drop, length}
use Rattle.std.specs.List.{flat_map}
use Rattle.wprinted.specs.Printing.{doubled, quote}
use Rattle.wprinted.proofs.line.write_quoted.Given as goal

abbrev pub invariant-loop-left : goal.invariant-loop-left
invariant-loop-left l = record {
  written : drop l.at l.line ≡ flat_map doubled (drop l.left l.text) ++ (quote ∷ drop l.end l.fn.line);
  before : l.at ≤ l.end;
  room : length l.line ≡ length l.fn.line;
  left : l.left ≤ length l.text;
}

abbrev pub decreases-loop-left : goal.decreases-loop-left
decreases-loop-left l = l.left
