use Rattle.std.proofs.Common.{ap, ◌∙◌}
use Rattle.wact.specs.Streams.{delivered_view}
use Rattle.wact.proofs.Delivering.{feeds_all}
use Rattle.wact.proofs.Outcomes.{at_ok}
use Rattle.wact.proofs.feeding.feed_node.Goals as goal

pub returns-clause-feeds : goal.returns-clause-feeds
returns-clause-feeds c =
    let each = rw c.requires.declared at c.deliveries-deliveries.ensures.delivered in
    let delivers = rw c.new-text.ensures.items at c.in_ok-deliver_all.ensures in
    let stored = rw c.in_ok-add_count.ensures at c.stored.ensures in
    feeds_all c.args.batch.now c.deliveries-deliveries.result.now c.args.node.now c.deliver_all.new.node _
    c.deliver_all.new.text.items c.stored.result c.requires.whole c.deliveries-deliveries.ensures.items each delivers stored

pub returns-clause-knows : goal.returns-clause-knows
returns-clause-knows c = at_ok c.stored.result (
  c.in_ok-deliver_all.ensures.schema_is,
  c.in_ok-deliver_all.ensures.view_is ∙ ap (delivered_view c.args.node.now.view) c.deliveries-deliveries.ensures.items,
)
