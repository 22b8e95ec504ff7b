use Rattle.wtyped.proofs.Exactly.{typed_is_exact}
use Rattle.wtyped.proofs.laws.typed_is_exact.Goals as goal

pub returns : goal.returns
returns c = typed_is_exact
