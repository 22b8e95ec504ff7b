use Rattle.std.proofs.Common.{rules, ◌≡◌, ◌<◌, None, inr, length}
use Rattle.wbatch.proofs.Filling.{ends_inside}
use Rattle.wbatch.proofs.batch.Batch.end.Goals as goal

pub returns-then-pending-gt0-clause-stops : goal.returns-then-pending-gt0-clause-stops
returns-then-pending-gt0-clause-stops c =
    let goes_on : c.self.inside.stopped ≡ None = search rules in
    let some : 0 < length c.self.inside.inbox.held = search rules in
    rw (← c.self.view_is) (inr (inr (ends_inside c.self.inside.schema c.self.inside.deliveries.items
    c.self.inside.inbox.held c.self.invariant.ready (c.self.invariant.unfinished goes_on) some)))
