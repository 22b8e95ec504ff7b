use Rattle.wset.proofs.Union.{views_are_settled}
use Rattle.wset.proofs.laws.views_are_settled.Goals as goal

pub returns : goal.returns
returns c = views_are_settled
