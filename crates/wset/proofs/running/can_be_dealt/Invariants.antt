use Rattle.std.proofs.Common.{◌↔◌, length}
use Rattle.wentries.specs.Blocks.{flat}
use Rattle.wset.specs.Running.{CanBeDealt}
use Rattle.wset.proofs.running.can_be_dealt.Given as goal

-- no segment so far has a run, and it is told by those that are left
abbrev pub invariant-walk : goal.invariant-walk
invariant-walk l = CanBeDealt l.keys l.rows l.walk ↔ CanBeDealt l.keys 0 (flat l.blocks)

abbrev pub decreases-walk : goal.decreases-walk
decreases-walk l = length l.walk
