use Rattle.std.proofs.Common.{subst}
use Rattle.wset.specs.Views.{IsSettled}
use Rattle.wentries.specs.Blocks.{flat}
use Rattle.wentries.specs.Entries.{known_entries}
use Rattle.wset.proofs.Settling.{settled_view}
use Rattle.wset.proofs.set.SegmentSet.name_count.Goals as goal

pub returns-clause-settled : goal.returns-clause-settled
returns-clause-settled c =
    subst (λ s. IsSettled s.view) c.self.view_is (settled_view (known_entries (flat c.self.inside.blocks.items))
    c.self.invariant.rising c.self.invariant.settled)
