use Rattle.wtyped.proofs.Equal.{equal_is_one}
use Rattle.wtyped.proofs.laws.equal_is_one.Goals as goal

pub returns : goal.returns
returns c = equal_is_one
