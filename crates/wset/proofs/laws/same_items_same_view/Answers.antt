use Rattle.wset.proofs.Union.{same_items_same_view}
use Rattle.wset.proofs.laws.same_items_same_view.Goals as goal

pub returns : goal.returns
returns c = same_items_same_view
