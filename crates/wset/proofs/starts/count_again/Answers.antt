use Rattle.std.proofs.Common.{ap, arith, length, subst, sym}
use Rattle.std.proofs.lemmas.List.{length-take}
use Rattle.wset.specs.Running.{AreStarts}
use Rattle.wset.proofs.starts.count_again.Goals as goal

pub count_on-requires-clause-in_range : goal.count_on-requires-clause-in_range
count_on-requires-clause-in_range c = omega (
  arith,
  c.requires.in_range,
  ap length c.truncate.ensures.items,
  length-take c.args.kept c.args.starts.now.items,
)

pub count_on-requires-clause-starts : goal.count_on-requires-clause-starts
count_on-requires-clause-starts c = subst (AreStarts c.args.blocks.now) (sym c.truncate.ensures.items) c.requires.starts
