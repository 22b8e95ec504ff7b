use Rattle.wtyped.proofs.Bounded.{accepted_is_bounded}
use Rattle.wtyped.proofs.laws.accepted_is_bounded.Goals as goal

pub returns : goal.returns
returns c = accepted_is_bounded c.sets_are_counted.ensures
