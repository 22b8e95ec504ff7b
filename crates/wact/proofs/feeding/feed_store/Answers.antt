use Rattle.wact.proofs.Delivering.{acts_opened, acts_refused, opened_by}
use Rattle.wact.proofs.Outcomes.{if_ok}
use Rattle.wact.proofs.feeding.feed_store.Goals as goal

pub feed_node-requires-clause-declared : goal.feed_node-requires-clause-declared
feed_node-requires-clause-declared c =
    let opens = rw c.in-Node.is at c.in_ok-node.ensures.opens in
    opened_by _ _ _ c.in-Node.node c.requires.declared opens

pub returns-in-Node : goal.returns-in-Node
returns-in-Node c =
    let opens = rw c.in-Node.is at c.in_ok-node.ensures.opens in
    if_ok c.feed_node.result (λ acted feeds choice is. acts_opened choice _ _ _ c.in-Node.node acted opens is feeds)
    c.feed_node.ensures.feeds

pub returns-in-Refused : goal.returns-in-Refused
returns-in-Refused c =
    let opens = rw c.in-Refused.is at c.in_ok-node.ensures.opens in
    λ choice is. acts_refused choice _ _ _ c.in-Refused.text c.refused.result opens c.refused.ensures
