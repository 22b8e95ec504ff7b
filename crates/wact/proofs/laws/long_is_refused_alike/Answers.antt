use Rattle.wact.proofs.LongFacts.{long_alike}
use Rattle.wact.proofs.laws.long_is_refused_alike.Goals as goal

pub returns : goal.returns
returns c = long_alike
