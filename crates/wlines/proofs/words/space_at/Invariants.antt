use Rattle.std.proofs.Common.{take}
use Rattle.wlines.specs.Words.{Lacks}
use Rattle.wlines.proofs.words.space_at.Given as goal

abbrev pub invariant-loop-i : goal.invariant-loop-i
invariant-loop-i l = Lacks 32 (take l.i l.line)
