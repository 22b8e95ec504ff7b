use Rattle.std.proofs.Common.{map, subst, sym}
use Rattle.wact.specs.Queries.{Asks}
use Rattle.wact.proofs.Replying.{asks_all}
use Rattle.wact.proofs.queries.ask.Goals as goal

pub returns : goal.returns
returns c =
    let answered = rw c.as_bytes.ensures.value at c.in_ok-answer.ensures.replies in
    let follow = rw (c.in_ok-answer.ensures.same, c.in_ok-output.ensures) at c.in_ok-add_replies.ensures.adds in
    subst (λ queries. Asks c.args.node.now.schema c.args.node.now.view (map (λ query. query.now) queries)
    c.replied-2.result) (sym c.in-Some.ensures.cases.0)
    (asks_all _ _ _ _ _ _ _ _ _ answered follow c.replied-2.ensures)
