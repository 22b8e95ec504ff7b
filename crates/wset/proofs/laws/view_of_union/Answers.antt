use Rattle.wset.proofs.Union.{view_of_union}
use Rattle.wset.proofs.laws.view_of_union.Goals as goal

pub returns : goal.returns
returns c = view_of_union
