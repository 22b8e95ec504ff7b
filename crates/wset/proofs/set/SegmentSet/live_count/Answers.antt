use Rattle.std.proofs.Common.{◌∙◌, ap, length}
use Rattle.wentries.specs.Blocks.{flat}
use Rattle.wentries.specs.Keeping.{kept_in}
use Rattle.wset.proofs.LiveFacts.{lives_counted, orders_counted}
use Rattle.wset.proofs.set.SegmentSet.live_count.Goals as goal

pub returns-clause-count : goal.returns-clause-count
returns-clause-count c =
    c.live_count_in.ensures ∙ ap (λ bs. length (kept_in (flat bs))) c.deref.ensures.value ∙ lives_counted c.self.inside
    c.args.self.now c.self.invariant c.self.view_is

pub returns-clause-orders : goal.returns-clause-orders
returns-clause-orders c =
    c.live_count_in.ensures ∙ ap (λ bs. length (kept_in (flat bs))) c.deref.ensures.value ∙ orders_counted c.self.inside
    c.args.self.now c.self.view_is
