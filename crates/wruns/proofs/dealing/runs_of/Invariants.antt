use Rattle.std.proofs.Common.{◌≡◌, length, take}
use Rattle.wruns.specs.Dealing.{segment_rows, AreRunsOf}
use Rattle.wruns.specs.Runs.{joined}
use Rattle.wruns.proofs.dealing.runs_of.Given as goal

-- the runs so far, and the number that comes next
abbrev pub invariant-loop-i : goal.invariant-loop-i
invariant-loop-i l = record {
  start : l.start ≡ length (joined (take l.i (segment_rows l.table.segments.now)));
  runs : AreRunsOf l.table.keys.now (take l.i (segment_rows l.table.segments.now)) l.runs.items;
}
