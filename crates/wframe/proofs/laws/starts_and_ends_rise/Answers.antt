use Rattle.wframe.proofs.LawFacts.{starts_rise, ends_rise}
use Rattle.wframe.proofs.laws.starts_and_ends_rise.Goals as goal

pub returns-clause-starts : goal.returns-clause-starts
returns-clause-starts c = starts_rise

pub returns-clause-ends : goal.returns-clause-ends
returns-clause-ends c = ends_rise
