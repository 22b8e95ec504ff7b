use Rattle.std.proofs.Common.{◌∙◌}
use Rattle.wscope.proofs.scope.Scope.groups_by.Goals as goal

pub returns : goal.returns
returns c = c.contains.ensures ∙ c.args.self.now.kept c.args.name.now
