use Rattle.std.proofs.Common.{take}
use Rattle.wruns.specs.Grouping.{HaveOneCode}
use Rattle.wruns.proofs.run.share_codes.Given as goal

-- the lists so far have one code for both rows
abbrev pub invariant-loop-list : goal.invariant-loop-list
invariant-loop-list l = HaveOneCode l.a l.b (take l.list-index l.codes)
