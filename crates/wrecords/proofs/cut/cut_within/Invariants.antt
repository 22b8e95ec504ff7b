use Rattle.std.proofs.Common.{take}
use Rattle.wlines.specs.Words.{Lacks}
use Rattle.wrecords.proofs.cut.cut_within.Given as goal

abbrev pub invariant-loop-i : goal.invariant-loop-i
invariant-loop-i l = Lacks 10 (take l.i l.bytes)
