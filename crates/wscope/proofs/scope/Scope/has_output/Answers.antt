use Rattle.std.proofs.Common.{◌∙◌}
use Rattle.wscope.proofs.scope.Scope.has_output.Goals as goal

pub returns : goal.returns
returns c = c.contains_key.ensures ∙ c.args.self.now.named c.args.name
