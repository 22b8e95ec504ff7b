use Rattle.std.proofs.Common.{◌↔◌, IsTrue, ap, arith, length, subst}
use Rattle.std.specs.List.{IsAmong}
use Rattle.wentries.specs.Blocks.{flat}
use Rattle.wentries.specs.Keeping.{kept_in}
use Rattle.wset.proofs.LiveFacts.{live_orders, lives_counted}
use Rattle.wset.proofs.set.SegmentSet.has_run.Goals as goal

pub live_in-requires-clause-in_range : goal.live_in-requires-clause-in_range
live_in-requires-clause-in_range c =
    omega (
      arith,
      c.requires,
      lives_counted c.self.inside c.args.self.now c.self.invariant c.self.view_is,
      ap (λ bs. length (kept_in (flat bs))) c.deref.ensures.value,
    )

pub returns : goal.returns
returns c =
    let found = rw c.deref.ensures.value at c.live_in.ensures in
    subst (λ o. IsTrue c.has.result ↔ IsAmong o c.args.keys.now) (live_orders c.self.inside c.args.self.now c.args.i
    c.live_in.result.0 c.live_in.result.1.now c.self.view_is found) c.has.ensures
