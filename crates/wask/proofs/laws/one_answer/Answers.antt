use Rattle.wask.proofs.OneAnswer.{one_answer}
use Rattle.wask.proofs.laws.one_answer.Goals as goal

pub returns : goal.returns
returns c = one_answer
