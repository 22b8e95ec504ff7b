use Rattle.std.proofs.Common.{◌≡◌, ◌++◌, length}
use Rattle.wruns.specs.Dealing.{segment_rows}
use Rattle.wentries.specs.Blocks.{flat}
use Rattle.wentries.specs.Keeping.{rows_in}
use Rattle.wset.proofs.running.segments.Given as goal

-- those so far, and those that are left
abbrev pub invariant-walk : goal.invariant-walk
invariant-walk l = segment_rows l.segments.items ++ rows_in l.walk ≡ rows_in (flat l.blocks)

abbrev pub decreases-walk : goal.decreases-walk
decreases-walk l = length l.walk
