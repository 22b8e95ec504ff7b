use Rattle.std.proofs.Common.{◌≡◌, suc, ◌<◌, ◌+◌, ◌*◌, rules, refl, arith}
use Rattle.wquery.specs.Tree.{view}
use Rattle.wnodes.specs.Nodes.{found_below}
use Rattle.wnodes.specs.Children.{children_of, found_all, nodes_left, sizing}
use Rattle.wnodes.proofs.Beside.{size_below}
use Rattle.wnodes.proofs.Split.{same_else, same_then}
use Rattle.wnodes.proofs.sameness.+sameness.Goals as goal

pub same-same_beside-requires : goal.same-same_beside-requires
same-same_beside-requires t c =
    let m : found_below sizing (view c.args.a.now) ≡ found_all sizing (nodes_left c.below.result) =
    size_below (view c.args.a.now) (nodes_left c.below.result) c.below.ensures in
    let less : 3 * found_all sizing (nodes_left c.below.result) + 1 < 3 * suc (found_below sizing (view c.args.a.now)) = omega (arith, m) in
    (rw (← c.decreases) less, search rules)

pub same-returns-then-same_head : goal.same-returns-then-same_head
same-returns-then-same_head t c =
    same_then (view c.args.a.now) (view c.args.b.now) _ _ _ _ _ _ c.of.ensures c.of-2.ensures c.below.ensures c.below-then-same_head.ensures
    c.same_head.ensures c.if-same_head.true c.same_beside.ensures

pub same-returns-else-same_head : goal.same-returns-else-same_head
same-returns-else-same_head t c =
    same_else (view c.args.a.now) (view c.args.b.now) _ _ (children_of (view c.args.a.now)) (children_of (view c.args.b.now)) _
    c.of.ensures c.of-2.ensures refl refl c.same_head.ensures c.if-same_head.false
