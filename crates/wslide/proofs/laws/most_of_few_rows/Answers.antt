use Rattle.std.proofs.Common.{refl}
use Rattle.wslide.specs.Height.{height}
use Rattle.wslide.proofs.laws.most_of_few_rows.Goals as goal

pub returns-clause-by_tree : goal.returns-clause-by_tree
unfolding height
returns-clause-by_tree c = (refl, refl, refl, refl)
