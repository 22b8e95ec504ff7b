use Rattle.std.proofs.Common.{get_or, map, take_all, ap, ◌∙◌, arith}
use Rattle.waggregate.proofs.GroupFacts.{ordered_more}
use Rattle.waggregate.proofs.grouped.parts_in_order.Goals as goal

pub loop-group-preserved : goal.loop-group-preserved
loop-group-preserved g c = λ d.
    let i = c.loop-group.group-index in
    ordered_more c.args.parts.now c.args.order.now i c.loop-group.ordered.items c.push.new.self.items
    c.index-parts-group.result d c.loop-group-test.true (c.requires i 0 c.loop-group-test.true)
    (c.loop-group.invariant d) c.in_ok-push.ensures.items c.index-parts-group.is

pub returns : goal.returns
returns g c = λ d.
    c.loop-group.invariant d ∙ ap (map (λ k. get_or c.args.parts.now k d))
    (take_all c.loop-group.group-index c.args.order.now (omega arith))
