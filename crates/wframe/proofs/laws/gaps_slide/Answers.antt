use Rattle.wframe.proofs.GapFacts.{before_slides, behind_slides, few_within}
use Rattle.wframe.proofs.laws.gaps_slide.Goals as goal

pub returns-clause-before : goal.returns-clause-before
returns-clause-before c = before_slides

pub returns-clause-behind : goal.returns-clause-behind
returns-clause-behind c = behind_slides

pub returns-clause-within : goal.returns-clause-within
returns-clause-within c = few_within
