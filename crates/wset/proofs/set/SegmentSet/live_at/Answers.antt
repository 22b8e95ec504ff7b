use Rattle.std.proofs.Common.{ap, arith, length}
use Rattle.wentries.specs.Blocks.{flat}
use Rattle.wentries.specs.Keeping.{kept_in}
use Rattle.wset.proofs.LiveFacts.{live_known, live_read, lives_counted}
use Rattle.wset.proofs.set.SegmentSet.live_at.Goals as goal

pub live_in-requires-clause-in_range : goal.live_in-requires-clause-in_range
live_in-requires-clause-in_range c =
    omega (
      arith,
      c.requires,
      lives_counted c.self.inside c.args.self.now c.self.invariant c.self.view_is,
      ap (λ bs. length (kept_in (flat bs))) c.deref.ensures.value,
    )

pub returns-clause-known : goal.returns-clause-known
returns-clause-known c =
    let found = rw c.deref.ensures.value at c.live_in.ensures in
    live_known c.self.inside c.args.self.now c.args.i c.live_in.result.0 c.live_in.result.1.now c.self.invariant c.self.view_is found

pub returns-clause-read : goal.returns-clause-read
returns-clause-read c =
    let found = rw c.deref.ensures.value at c.live_in.ensures in
    live_read c.self.inside c.args.self.now c.args.i c.live_in.result.0 c.live_in.result.1.now c.self.invariant c.self.view_is found
