use Rattle.wstore.proofs.Histories.{slots_join}
use Rattle.wstore.proofs.laws.slots_join.Goals as goal

pub returns : goal.returns
returns c = slots_join
