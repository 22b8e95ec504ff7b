use Rattle.wframe.proofs.RowFacts.{moved_alike}
use Rattle.wframe.proofs.laws.peers_may_change_places.Goals as goal

pub returns : goal.returns
returns c = moved_alike
