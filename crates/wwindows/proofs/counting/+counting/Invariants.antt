use Rattle.std.proofs.Common.{◌≡◌, ◌≤◌, ◌+◌, ◌*◌, length}
use Rattle.wquery.specs.Tree.{view}
use Rattle.wnodes.specs.Nodes.{found, found_below}
use Rattle.wnodes.specs.Children.{found_all, nodes_left, sizing}
use Rattle.wwindows.specs.Limits.{counting, counted}
use Rattle.wwindows.proofs.counting.+counting.Given as goal

abbrev pub decreases-count_over : goal.decreases-count_over
decreases-count_over l = 3 * found sizing (view l.e.now)

abbrev pub decreases-count_below : goal.decreases-count_below
decreases-count_below l = 3 * found_below sizing (view l.e.now) + 2

abbrev pub decreases-count_beside : goal.decreases-count_beside
decreases-count_beside l = 3 * found_all sizing (nodes_left l.nodes) + 1

abbrev pub invariant-count_beside-nodes : goal.invariant-count_beside-nodes
invariant-count_beside-nodes l =
    (l.count ≤ 33) × (counted (found_all counting (nodes_left l.nodes))
    ≡ counted (l.count + found_all counting (nodes_left l.rest)))
    × (found_all sizing (nodes_left l.rest) ≤ found_all sizing (nodes_left l.nodes))

abbrev pub decreases-count_beside-nodes : goal.decreases-count_beside-nodes
decreases-count_beside-nodes l = length (nodes_left l.rest)
