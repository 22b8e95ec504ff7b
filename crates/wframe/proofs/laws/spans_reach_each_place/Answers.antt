use Rattle.wframe.proofs.RowFacts.{some_span}
use Rattle.wframe.proofs.laws.spans_reach_each_place.Goals as goal

pub returns : goal.returns
returns c = λ spans rows place tiles below. some_span rows spans place tiles below
