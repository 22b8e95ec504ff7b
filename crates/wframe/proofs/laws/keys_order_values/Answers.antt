use Rattle.wvalues.specs.OrderLaws.{keys_total}
use Rattle.wframe.proofs.ValueFacts.{same_value, same_values}
use Rattle.wframe.proofs.laws.keys_order_values.Goals as goal

pub returns-clause-values : goal.returns-clause-values
returns-clause-values c = same_value

pub returns-clause-lists : goal.returns-clause-lists
returns-clause-lists c = same_values

pub returns-clause-total : goal.returns-clause-total
returns-clause-total c = keys_total
