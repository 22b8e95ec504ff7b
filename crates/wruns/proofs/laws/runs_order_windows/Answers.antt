use Rattle.wruns.proofs.OrderingFacts.{window_in_order}
use Rattle.wruns.proofs.laws.runs_order_windows.Goals as goal

pub returns : goal.returns
returns c = window_in_order
