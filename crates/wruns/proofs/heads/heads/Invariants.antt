use Rattle.std.proofs.Common.{◌≡◌, ◌++◌, drop}
use Rattle.wruns.specs.Heads.{heads_from}
use Rattle.wruns.proofs.heads.heads.Given as goal

-- the heads so far, and those of the runs that are left
abbrev pub invariant-loop-i : goal.invariant-loop-i
invariant-loop-i l = l.heads.items ++ heads_from l.i (drop l.i l.sources) ≡ heads_from 0 l.sources
