use Rattle.std.proofs.Common.{◌-◌, ◌≤◌, length, take}
use Rattle.std.specs.Io.KnownBytes.{Appends}
use Rattle.wlines.specs.Pending.{IsNew}
use Rattle.wstore_program.proofs.printing.write_whole.Given as goal

abbrev pub invariant-loop-written : goal.invariant-loop-written
invariant-loop-written g l = record {
  within : l.written ≤ length l.text;
  sound : IsNew l.output;
  appended : Appends (g.W.Write.contents l.initial.output.inner) (g.W.Write.contents l.output.inner) (take l.written l.text);
}

abbrev pub decreases-loop-written : goal.decreases-loop-written
decreases-loop-written g l = length l.text - l.written
