use Rattle.wscope.proofs.TypeFacts.{types_given}
use Rattle.wscope.proofs.laws.types_given.Goals as goal

pub returns : goal.returns
returns c = types_given
