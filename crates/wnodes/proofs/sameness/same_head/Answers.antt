use Rattle.std.proofs.Common.{◌∙◌}
use Rattle.wnodes.proofs.HeadFacts.{heads_same}
use Rattle.wnodes.proofs.sameness.same_head.Goals as goal

pub returns : goal.returns
returns c = c.eq.ensures ∙ heads_same c.args.a.now c.args.b.now
