use Rattle.std.proofs.Common.{◌-◌, ◌<◌}
use Rattle.wsegment.proofs.texts.last_slot.Given as goal

abbrev pub invariant-loop-count : goal.invariant-loop-count
invariant-loop-count l = record { some : 0 < l.count; few : l.count < 131072 }

abbrev pub decreases-loop-count : goal.decreases-loop-count
decreases-loop-count l = 65536 - l.count
