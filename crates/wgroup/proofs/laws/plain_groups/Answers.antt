use Rattle.wgroup.proofs.PlainFacts.{one_set}
use Rattle.wgroup.proofs.laws.plain_groups.Goals as goal

pub returns : goal.returns
returns c = one_set
