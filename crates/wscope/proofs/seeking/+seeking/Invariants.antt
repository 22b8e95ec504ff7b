use Rattle.std.proofs.Common.{◌≡◌, ◌≤◌, ◌+◌, ◌*◌, length}
use Rattle.wquery.specs.Tree.{view}
use Rattle.wnodes.specs.Nodes.{found, found_below}
use Rattle.wscope.specs.Seeking.{seeking}
use Rattle.wnodes.specs.Children.{found_all, nodes_left, sizing}
use Rattle.wscope.proofs.seeking.+seeking.Given as goal

abbrev pub decreases-any_node : goal.decreases-any_node
decreases-any_node g l = 3 * found sizing (view l.e.now)

abbrev pub decreases-any_below : goal.decreases-any_below
decreases-any_below g l = 3 * found_below sizing (view l.e.now) + 2

abbrev pub decreases-any_beside : goal.decreases-any_beside
decreases-any_beside g l = 3 * found_all sizing (nodes_left l.nodes) + 1

abbrev pub invariant-any_beside-nodes : goal.invariant-any_beside-nodes
invariant-any_beside-nodes g l =
    (found_all (seeking (g.T.NodeTest.sees l.test)) (nodes_left l.nodes) ≡ found_all (seeking (g.T.NodeTest.sees l.test))
    (nodes_left l.rest)) × (found_all sizing (nodes_left l.rest) ≤ found_all sizing (nodes_left l.nodes))

abbrev pub decreases-any_beside-nodes : goal.decreases-any_beside-nodes
decreases-any_beside-nodes g l = length (nodes_left l.rest)
