use Rattle.wruns.proofs.OrderingFacts.{kept_in_order}
use Rattle.wruns.proofs.laws.kept_rows_stay_in_order.Goals as goal

pub returns : goal.returns
returns c = kept_in_order
