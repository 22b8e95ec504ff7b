use Rattle.wexpressions.proofs.Steps.{after_got, after_missing}
use Rattle.wparser.proofs.groupings.parenthesized.Goals as goal

pub returns-in-None : goal.returns-in-None
returns-in-None g c = after_missing c.in-None.ensures

pub returns-in-Some : goal.returns-in-Some
returns-in-Some g c = after_got c.in-Some.ensures c.nested.ensures
