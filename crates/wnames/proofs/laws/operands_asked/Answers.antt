use Rattle.wnames.proofs.Operands.{operands_asked}
use Rattle.wnames.proofs.laws.operands_asked.Goals as goal

pub returns : goal.returns
returns c = operands_asked
