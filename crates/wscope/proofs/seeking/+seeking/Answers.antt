use Rattle.std.proofs.Common.{◌≡◌, ◌<◌, ◌+◌, ◌*◌, rules, ap, sym, ◌∙◌, arith}
use Rattle.wquery.specs.Tree.{view}
use Rattle.wnodes.specs.Nodes.{found_below}
use Rattle.wscope.specs.Seeking.{seeking}
use Rattle.wnodes.specs.Children.{found_all, nodes_left, sizing}
use Rattle.wnodes.proofs.Beside.{below_all, size_below}
use Rattle.wscope.proofs.Looks.{looks_joined}
use Rattle.wscope.proofs.seeking.+seeking.Goals as goal

pub any_below-any_beside-requires : goal.any_below-any_beside-requires
any_below-any_beside-requires g t c =
    let m : found_below sizing (view c.args.e.now) ≡ found_all sizing (nodes_left c.in-Some.nodes) =
    size_below (view c.args.e.now) (nodes_left c.in-Some.nodes) c.in-Some.ensures in
    let less : 3 * found_all sizing (nodes_left c.in-Some.nodes) + 1 < 3 * found_below sizing (view c.args.e.now) + 2 = omega (arith, m) in
    λ κs h. (rw (← c.decreases) less, search rules)

pub any_below-returns-in-Some : goal.any_below-returns-in-Some
any_below-returns-in-Some g t c =
    c.any_beside.ensures ∙ ap (found_all (seeking (g.T.NodeTest.sees c.args.test.now))) c.in-Some.ensures
    ∙ sym (below_all (seeking (g.T.NodeTest.sees c.args.test.now)) (looks_joined (g.T.NodeTest.sees c.args.test.now))
    (view c.args.e.now))

pub any_below-returns-in-None : goal.any_below-returns-in-None
any_below-returns-in-None g t c =
    sym (below_all (seeking (g.T.NodeTest.sees c.args.test.now)) (looks_joined (g.T.NodeTest.sees c.args.test.now))
    (view c.args.e.now) ∙ ap (found_all (seeking (g.T.NodeTest.sees c.args.test.now))) c.in-None.ensures)
