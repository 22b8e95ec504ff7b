use Rattle.wtyped.proofs.Spelled.{spelled_is_shaped}
use Rattle.wtyped.proofs.laws.spelled_is_shaped.Goals as goal

pub returns : goal.returns
returns c = spelled_is_shaped
