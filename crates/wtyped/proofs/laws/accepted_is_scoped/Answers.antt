use Rattle.wtyped.proofs.Scoped.{accepted_is_scoped}
use Rattle.wtyped.proofs.laws.accepted_is_scoped.Goals as goal

pub returns : goal.returns
returns c = accepted_is_scoped
