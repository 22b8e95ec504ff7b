use Rattle.wsegment.proofs.JudgementFacts.{judges}
use Rattle.wsegment.proofs.laws.rows_need_no_memory.Goals as goal

pub returns : goal.returns
returns c = judges
