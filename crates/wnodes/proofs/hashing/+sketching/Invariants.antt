use Rattle.std.proofs.Common.{◌≡◌, ◌≤◌, ◌+◌, ◌*◌, length}
use Rattle.wquery.specs.Tree.{view}
use Rattle.wnodes.specs.Nodes.{found}
use Rattle.wnodes.specs.Children.{found_all, nodes_left, sizing}
use Rattle.wnodes.specs.Sketch.{sketching}
use Rattle.wnodes.proofs.hashing.+sketching.Given as goal

abbrev pub decreases-hash_node : goal.decreases-hash_node
decreases-hash_node l = 2 * found sizing (view l.e.now)

abbrev pub decreases-hash_beside : goal.decreases-hash_beside
decreases-hash_beside l = 2 * found_all sizing (nodes_left l.nodes) + 1

abbrev pub invariant-hash_beside-nodes : goal.invariant-hash_beside-nodes
invariant-hash_beside-nodes l =
    (found_all sketching (nodes_left l.rest) l.state ≡ found_all sketching (nodes_left l.nodes) l.fn.state)
    × (found_all sizing (nodes_left l.rest) ≤ found_all sizing (nodes_left l.nodes))

abbrev pub decreases-hash_beside-nodes : goal.decreases-hash_beside-nodes
decreases-hash_beside-nodes l = length (nodes_left l.rest)
