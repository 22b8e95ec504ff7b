use Rattle.std.proofs.Common.{◌-◌}
use Rattle.wvalues.specs.Order.{keys_cmp}
use Rattle.wframe.specs.KeyRows.{key_lists, sort_keys}
use Rattle.wframe.specs.PeerGroups.{HoldsEnd}
use Rattle.wframe.proofs.peers.end_between.Given as goal

abbrev pub invariant-loop-to : goal.invariant-loop-to
invariant-loop-to l = HoldsEnd (keys_cmp (sort_keys l.rows)) (key_lists l.rows) l.first (record { from = l.from; to = l.to })

abbrev pub decreases-loop-to : goal.decreases-loop-to
decreases-loop-to l = l.to - l.from
