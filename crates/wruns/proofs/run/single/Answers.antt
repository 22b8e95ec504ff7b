use Rattle.std.proofs.Common.{sym}
use Rattle.wruns.proofs.CutFacts.{single_is}
use Rattle.wruns.proofs.run.single.Goals as goal

pub returns : goal.returns
returns c = sym (single_is c.args.rows.now c.args.number c.requires)
