use Rattle.std.proofs.Common.{arith}
use Rattle.wplaces.proofs.DenseFacts.{dense_few}
use Rattle.wplaces.proofs.ranks.next_dense_rank.Goals as goal

pub overflow_add-result : goal.overflow_add-result
overflow_add-result c = omega (
  arith,
  dense_few c.args.frames.now c.args.row c.args.before c.peers.result c.if-row-eq0.false
      c.requires.before c.peers.ensures.smaller c.peers.ensures.from,
)
