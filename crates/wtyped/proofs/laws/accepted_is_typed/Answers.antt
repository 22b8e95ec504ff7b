use Rattle.wtyped.proofs.Accepted.{accepted_is_typed}
use Rattle.wtyped.proofs.laws.accepted_is_typed.Goals as goal

pub returns : goal.returns
returns c = accepted_is_typed
