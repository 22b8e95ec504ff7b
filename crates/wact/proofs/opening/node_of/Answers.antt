use Rattle.std.proofs.Common.{rules, ap}
use Rattle.wact.proofs.Outcomes.{knows_told}
use Rattle.wact.proofs.opening.node_of.Goals as goal

pub returns-in-Ok-clause-known : goal.returns-in-Ok-clause-known
returns-in-Ok-clause-known c =
    let learns = c.in-Ok.ensures.ok in
    knows_told _ _ _ c.in-Some.bytes _ _ learns.view (search rules) (ap (λ n. n.schema) c.empty_node-node.ensures)
    (ap (λ n. n.view) c.empty_node-node.ensures) learns.file (ap (λ n. n.view) learns.new_is)
