use Rattle.std.proofs.Common.{◌≡◌, false, map, take, get_or}
use Rattle.waggregate.proofs.picking.tests_of.Given as goal

abbrev pub invariant-loop-row : goal.invariant-loop-row
invariant-loop-row l = l.picked.items ≡ map (λ i. get_or l.tests i false) (take l.row-index l.rows)
