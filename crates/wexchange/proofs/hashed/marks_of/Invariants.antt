use Rattle.std.proofs.Common.{◌≤◌, take}
use Rattle.sha2.specs.Hashers.{Holds256}
use Rattle.wexchange.specs.Marks.{AreMarks}
use Rattle.wexchange.proofs.hashed.marks_of.Given as goal

abbrev pub invariant-marks : goal.invariant-marks
invariant-marks l = record {
  within : l.len ≤ l.end;
  holds : Holds256 l.hasher (take l.len l.bytes);
  marks : AreMarks l.bytes l.mark-items;
}
