use Rattle.wtyped.proofs.Running.{accepted_runs_typed}
use Rattle.wtyped.proofs.laws.accepted_runs_typed.Goals as goal

pub returns : goal.returns
returns c = accepted_runs_typed
