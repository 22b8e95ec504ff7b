use Rattle.std.proofs.Common.{◌≡◌, ◌<◌, ◌+◌, ◌*◌, rules, arith}
use Rattle.wquery.specs.Tree.{view}
use Rattle.wnodes.specs.Nodes.{found_below}
use Rattle.wnodes.specs.Children.{found_all, nodes_left, sizing}
use Rattle.wnodes.proofs.Beside.{size_below}
use Rattle.wdistinct.specs.Calls.{call_trees, is_call_of, nodes_below, nodes_in, picking}
use Rattle.wdistinct.proofs.Collected.{behind, below_found, node_passed, none_below}
use Rattle.wdistinct.proofs.distinct_calls.+collecting.Goals as goal

pub collect-returns-in-None : goal.collect-returns-in-None
collect-returns-in-None t c =
    behind c.collect_below.result (call_trees c.args.calls.now.items) (call_trees c.collect_below.new.calls.items)
    (nodes_below (is_call_of c.args.kind) (view c.args.e.now)) (nodes_in (is_call_of c.args.kind) (view c.args.e.now))
    (node_passed (is_call_of c.args.kind) (view c.args.e.now) c.in-None.ensures) c.collect_below.ensures

pub collect_below-collect_beside-requires : goal.collect_below-collect_beside-requires
collect_below-collect_beside-requires t c =
    let m : found_below sizing (view c.args.e.now) ≡ found_all sizing (nodes_left c.in-Some.nodes) =
    size_below (view c.args.e.now) (nodes_left c.in-Some.nodes) c.in-Some.ensures in
    let less : 3 * found_all sizing (nodes_left c.in-Some.nodes) + 1 < 3 * found_below sizing (view c.args.e.now) + 2 = omega (arith, m) in
    (rw (← c.decreases) less, search rules)

pub collect_below-returns-in-None : goal.collect_below-returns-in-None
collect_below-returns-in-None t c = none_below (is_call_of c.args.kind) (view c.args.e.now)
    (call_trees c.args.calls.now.items) c.in-None.ensures

pub collect_below-returns-in-Some : goal.collect_below-returns-in-Some
collect_below-returns-in-Some t c =
    behind c.collect_beside.result (call_trees c.args.calls.now.items) (call_trees c.collect_beside.new.calls.items)
    (found_all (picking (is_call_of c.args.kind)) (nodes_left c.in-Some.nodes)) (nodes_below (is_call_of c.args.kind)
    (view c.args.e.now)) (below_found (is_call_of c.args.kind) (view c.args.e.now) (nodes_left c.in-Some.nodes)
    c.in-Some.ensures) c.collect_beside.ensures
