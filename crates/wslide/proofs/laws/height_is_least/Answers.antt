use Rattle.wslide.proofs.Heights.{height_enough, height_least}
use Rattle.wslide.proofs.laws.height_is_least.Goals as goal

pub returns-clause-enough : goal.returns-clause-enough
returns-clause-enough c = height_enough

pub returns-clause-least : goal.returns-clause-least
returns-clause-least c = height_least
