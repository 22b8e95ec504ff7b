use Rattle.std.proofs.Common.{◌≡◌, ◌≤◌, ◌+◌, ◌*◌, length}
use Rattle.wquery.specs.Tree.{view}
use Rattle.wnodes.specs.Nodes.{found}
use Rattle.wnodes.specs.Children.{found_all, nodes_left, sizing}
use Rattle.wnodes.specs.Heads.{all_same}
use Rattle.wnodes.proofs.sameness.+sameness.Given as goal

abbrev pub decreases-same : goal.decreases-same
decreases-same l = 3 * found sizing (view l.a.now)

abbrev pub decreases-same_beside : goal.decreases-same_beside
decreases-same_beside l = 3 * found_all sizing (nodes_left l.a) + 1

abbrev pub invariant-same_beside-nodes : goal.invariant-same_beside-nodes
invariant-same_beside-nodes l = (all_same (nodes_left l.a) (nodes_left l.b) ≡ all_same (nodes_left l.left) (nodes_left l.right))
    × (found_all sizing (nodes_left l.left) ≤ found_all sizing (nodes_left l.a))

abbrev pub decreases-same_beside-nodes : goal.decreases-same_beside-nodes
decreases-same_beside-nodes l = length (nodes_left l.left)
