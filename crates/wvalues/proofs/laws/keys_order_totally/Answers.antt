use Rattle.wvalues.specs.OrderLaws.{keys_total}
use Rattle.wvalues.proofs.laws.keys_order_totally.Goals as goal

pub returns : goal.returns
returns c = keys_total
