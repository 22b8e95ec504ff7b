use Rattle.std.proofs.Common.{◌+◌, ◌≤◌, arith}
use Rattle.wvalues.specs.OrderLaws.{keys_total}
use Rattle.wframe.specs.KeyRows.{key_lists, sort_keys}
use Rattle.wframe.proofs.PartitionFacts.{held_end}
use Rattle.wframe.proofs.peers.end_between.Goals as goal

pub returns : goal.returns
returns c =
    let near : c.loop-to.to ≤ c.loop-to.from + 1 = omega (arith, c.loop-to-test.false) in
    held_end (keys_total (sort_keys c.args.rows.now)) (key_lists c.args.rows.now) c.requires.ordered c.args.first
    (record { from = c.loop-to.from; to = c.loop-to.to }) c.requires.first c.loop-to.invariant near
