use Rattle.std.proofs.Common.{◌∙◌}
use Rattle.wscope.proofs.expanding.find_in.Goals as goal

pub returns : goal.returns
returns c = c.window_found.ensures c.args.name.now (c.get.ensures.value ∙ c.requires c.args.name.now)
