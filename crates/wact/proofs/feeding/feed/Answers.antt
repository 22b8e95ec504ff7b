use Rattle.std.proofs.Common.{◌≡◌, ◌∙◌, ap, subst}
use Rattle.wbatch.specs.Streams.{IsUndelivered}
use Rattle.wact.proofs.Delivering.{feeds_refused}
use Rattle.wact.proofs.feeding.feed.Goals as goal

pub returns : goal.returns
returns c =
    let same : c.new-batch.result.schema ≡ c.args.node.now.schema = ap (λ b. b.schema) c.new-batch.ensures
    ∙ c.in_ok-schema.ensures ∙ c.schema.ensures in
    feeds_refused _ _ _ _ c.in-Err.reason c.undelivered.result
    (subst (λ d. IsUndelivered d c.args.stream.now c.in-Err.reason) same c.in-Err.ensures.stops) c.undelivered.ensures.refused
