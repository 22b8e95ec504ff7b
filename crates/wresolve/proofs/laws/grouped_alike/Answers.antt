use Rattle.wresolve.proofs.Grouped.{grouped_alike}
use Rattle.wresolve.proofs.laws.grouped_alike.Goals as goal

pub returns : goal.returns
returns c = grouped_alike
