use Rattle.std.proofs.Common.{◌≡◌, ◌<◌, ◌+◌, ◌*◌, [], rules, sym, ◌∙◌, arith}
use Rattle.wquery.specs.Tree.{view}
use Rattle.wnodes.specs.Nodes.{found_below}
use Rattle.wnodes.specs.Children.{found_all, nodes_left, sizing}
use Rattle.wnodes.proofs.Beside.{size_below}
use Rattle.wwindows.proofs.OwnWindows.{below_counted, node_counted}
use Rattle.wwindows.proofs.counting.+counting.Goals as goal

pub count_below-count_beside-requires : goal.count_below-count_beside-requires
count_below-count_beside-requires t c =
    let m : found_below sizing (view c.args.e.now) ≡ found_all sizing (nodes_left c.in-Some.nodes) =
    size_below (view c.args.e.now) (nodes_left c.in-Some.nodes) c.in-Some.ensures in
    let less : 3 * found_all sizing (nodes_left c.in-Some.nodes) + 1 < 3 * found_below sizing (view c.args.e.now) + 2 = omega (arith, m) in
    (rw (← c.decreases) less, search rules)

pub count_below-returns-in-None : goal.count_below-returns-in-None
count_below-returns-in-None t c = below_counted (view c.args.e.now) [] (sym c.in-None.ensures)

pub count_below-returns-in-Some : goal.count_below-returns-in-Some
count_below-returns-in-Some t c = c.count_beside.ensures ∙ below_counted (view c.args.e.now) (nodes_left c.in-Some.nodes) c.in-Some.ensures

pub count_over-returns : goal.count_over-returns
count_over-returns t c = node_counted (view c.args.e.now) c.count_own.result c.count_below.result c.plus.result
    c.count_own.ensures c.count_below.ensures c.plus.ensures
