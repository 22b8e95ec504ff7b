use Rattle.std.proofs.Common.{◌≡◌, ◌++◌, take}
use Rattle.wruns.specs.Heads.{heads_of}
use Rattle.wruns.proofs.heads.push_heads.Given as goal

-- the heads so far
abbrev pub invariant-loop-number : goal.invariant-loop-number
invariant-loop-number l = l.heads.items ≡ l.initial.heads.items ++ heads_of l.segment 0 (take l.number l.run.groups)
