use Rattle.std.proofs.Common.{◌-◌, min, ap, ◌∙◌}
use Rattle.wrows.specs.Plain.{at_most_limit}
use Rattle.wtable.proofs.FrontFacts.{needed_is}
use Rattle.wtable.proofs.front.needed_of.Goals as goal

pub returns : goal.returns
returns c =
    let from = c.asked_for-from.result.0 in
    c.end_of.ensures
    ∙ needed_is c.args.select.now.offset c.args.select.now.limit c.args.total from c.asked_for-from.result.1
    (c.asked_for-from.ensures.first ∙ ap (λ n. min n c.args.total) c.asked_of.ensures.offset)
    (c.asked_for-from.ensures.count ∙ ap (λ limit. at_most_limit limit (c.args.total - from)) c.asked_of.ensures.limit)
