use Rattle.std.proofs.Common.{◌≡◌, ◌<◌, ◌≤◌, ◌-◌, true, length}
use Rattle.wvalues.specs.Order.{keys_cmp}
use Rattle.wframe.specs.KeyRows.{key_lists, sort_keys}
use Rattle.wframe.specs.Peers.{is_upto}
use Rattle.wframe.proofs.peers.end_bounds.Given as goal

abbrev pub invariant-loop-from : goal.invariant-loop-from
invariant-loop-from l = (l.first ≤ l.from) × (l.from < length (key_lists l.rows))
    × (is_upto (keys_cmp (sort_keys l.rows)) (key_lists l.rows) l.first l.from ≡ true)

abbrev pub decreases-loop-from : goal.decreases-loop-from
decreases-loop-from l = l.count - l.from
