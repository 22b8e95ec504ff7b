use Rattle.std.proofs.Common.{arith}
use Rattle.wvalues.specs.OrderLaws.{keys_total}
use Rattle.wframe.specs.KeyRows.{key_lists, sort_keys}
use Rattle.wframe.proofs.PartitionFacts.{first_upto}
use Rattle.wframe.proofs.peers.end_bounds.Goals as goal

pub loop-from-init : goal.loop-from-init
loop-from-init c = (
  omega arith,
  c.requires.first,
  first_upto (keys_total (sort_keys c.args.rows.now))
      (key_lists c.args.rows.now) c.requires.ordered c.args.first c.requires.first c.args.first (omega arith),
)
