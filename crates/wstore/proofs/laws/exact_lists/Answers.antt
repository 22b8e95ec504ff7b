use Rattle.wstore.proofs.Histories.{exact_lists}
use Rattle.wstore.proofs.laws.exact_lists.Goals as goal

pub returns : goal.returns
returns c = exact_lists
