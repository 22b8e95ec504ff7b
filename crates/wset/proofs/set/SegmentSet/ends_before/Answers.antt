use Rattle.std.proofs.Common.{ap, subst}
use Rattle.wset.specs.Views.{IsSettled}
use Rattle.wentries.specs.Entries.{known_entries}
use Rattle.wset.proofs.Settling.{settled_view}
use Rattle.wentries.specs.Blocks.{flat}
use Rattle.wset.proofs.Maps.{entries-is}
use Rattle.wset.proofs.set.SegmentSet.ends_before.Goals as goal

pub returns-clause-before : goal.returns-clause-before
returns-clause-before c =
    rw (
      entries-is (flat c.self.inside.blocks.items) c.args.self.now.view c.self.invariant.rising
          (ap (λ s. s.view) c.self.view_is),
      ← c.deref.ensures.value,
    ) c.end_before.ensures

pub returns-clause-settled : goal.returns-clause-settled
returns-clause-settled c =
    subst (λ s. IsSettled s.view) c.self.view_is (settled_view (known_entries (flat c.self.inside.blocks.items))
    c.self.invariant.rising c.self.invariant.settled)
