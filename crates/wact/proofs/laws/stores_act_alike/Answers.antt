use Rattle.wact.proofs.Alike.{act_alike}
use Rattle.wact.proofs.laws.stores_act_alike.Goals as goal

pub returns : goal.returns
returns c = act_alike
