use Rattle.wset.proofs.Greatest.{greatest_floors}
use Rattle.wset.proofs.laws.views_have_greatest_floors.Goals as goal

pub returns : goal.returns
returns c = greatest_floors
