use Rattle.wframe.proofs.SplitFacts.{split_values, split_keys}
use Rattle.wframe.proofs.laws.order_splits.Goals as goal

pub returns-clause-by_values : goal.returns-clause-by_values
returns-clause-by_values c vs ks all values keys n rows wide ordered = split_values vs ks all values keys rows wide ordered n

pub returns-clause-by_keys : goal.returns-clause-by_keys
returns-clause-by_keys c vs ks all values keys n rows wide ordered = split_keys vs ks all values keys rows wide ordered n
