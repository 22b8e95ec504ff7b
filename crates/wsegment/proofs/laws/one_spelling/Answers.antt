use Rattle.wsegment.proofs.SpellingFacts.{spells-one}
use Rattle.wsegment.proofs.laws.one_spelling.Goals as goal

pub returns : goal.returns
returns c = spells-one
