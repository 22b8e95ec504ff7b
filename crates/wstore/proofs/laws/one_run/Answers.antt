use Rattle.wstore.proofs.OneRun.{one_run}
use Rattle.wstore.proofs.laws.one_run.Goals as goal

pub returns : goal.returns
returns c = one_run
