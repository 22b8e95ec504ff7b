use Rattle.std.proofs.Common.{◌≡◌, ◌≤◌, ◌+◌, ◌*◌, ◌++◌, length}
use Rattle.wquery.specs.Tree.{view}
use Rattle.wnodes.specs.Nodes.{found, found_below}
use Rattle.wnodes.specs.Children.{found_all, nodes_left, sizing}
use Rattle.wdistinct.specs.Calls.{call_trees, is_call_of, picking}
use Rattle.wdistinct.proofs.distinct_calls.+collecting.Given as goal

abbrev pub decreases-collect : goal.decreases-collect
decreases-collect l = 3 * found sizing (view l.e.now)

abbrev pub decreases-collect_below : goal.decreases-collect_below
decreases-collect_below l = 3 * found_below sizing (view l.e.now) + 2

abbrev pub decreases-collect_beside : goal.decreases-collect_beside
decreases-collect_beside l = 3 * found_all sizing (nodes_left l.nodes) + 1

abbrev pub invariant-collect_beside-nodes : goal.invariant-collect_beside-nodes
invariant-collect_beside-nodes l =
    (call_trees l.calls.items ++ found_all (picking (is_call_of l.kind)) (nodes_left l.rest) ≡ call_trees l.fn.calls.items
    ++ found_all (picking (is_call_of l.kind)) (nodes_left l.nodes))
    × (found_all sizing (nodes_left l.rest) ≤ found_all sizing (nodes_left l.nodes))

abbrev pub decreases-collect_beside-nodes : goal.decreases-collect_beside-nodes
decreases-collect_beside-nodes l = length (nodes_left l.rest)
