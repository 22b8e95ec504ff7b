use Rattle.std.proofs.Common.{sym, ◌∙◌}
use Rattle.wtokens.proofs.Ones.{one_here}
use Rattle.wtokens.proofs.first.operator.Goals as goal

pub returns : goal.returns
returns c = one_here c.in_ok-lexeme.ensures (sym c.operator_of.ensures ∙ c.in_ok-operator.was)
