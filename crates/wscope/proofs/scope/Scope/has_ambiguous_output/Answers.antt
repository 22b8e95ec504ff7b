use Rattle.std.proofs.Common.{◌∙◌, ap}
use Rattle.wscope.specs.Outputs.{has_two}
use Rattle.wscope.proofs.scope.Scope.has_ambiguous_output.Goals as goal

pub returns : goal.returns
returns c = c.has_two.ensures ∙ ap has_two c.get.ensures.value ∙ c.args.self.now.two c.args.name
