use Rattle.std.proofs.Common.{◌≡◌, map, take}
use Rattle.wact.specs.Queries.{RepliesFollow}
use Rattle.wact.proofs.queries.add_replies.Given as goal

abbrev pub invariant-loop-query : goal.invariant-loop-query
invariant-loop-query l = record {
  same : l.node ≡ l.initial.node;
  follow : RepliesFollow l.initial.node.schema l.initial.node.view (map (λ query. query.now) (take l.query-index l.queries))
      l.initial.output.items l.output.items l.initial.is_refused l.is_refused;
}
