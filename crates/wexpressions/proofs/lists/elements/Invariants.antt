use Rattle.std.proofs.Common.{length, map}
use Rattle.wtokens.specs.Notation.{meanings}
use Rattle.wexpressions.proofs.Steps.{Listing}
use Rattle.wexpressions.proofs.lists.elements.Given as goal

abbrev pub invariant-elements : goal.invariant-elements
invariant-elements g l = Listing (g.E.Element.spelling l.depth) (meanings l.tokens) (map g.E.Element.said l.elements.items)
    (meanings l.left)

abbrev pub decreases-elements : goal.decreases-elements
decreases-elements g l = length l.left
