use Rattle.wvalues.specs.OrderLaws.{ties_same}
use Rattle.wvalues.proofs.laws.ties_are_same.Goals as goal

pub returns : goal.returns
returns c = ties_same
