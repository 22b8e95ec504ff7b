use Rattle.std.proofs.Common.{◌∙◌, IfSome, sym, ap, subst}
use Rattle.std.specs.FinMap.{get}
use Rattle.wentries.specs.Holding.{IsHeldBy}
use Rattle.wset.specs.Views.{IsSettled}
use Rattle.wentries.specs.Blocks.{flat}
use Rattle.wentries.specs.Entries.{known_entries}
use Rattle.wset.proofs.Settling.{settled_view}
use Rattle.wset.proofs.Maps.{get-view}
use Rattle.wset.proofs.Sets.{held_read}
use Rattle.wset.proofs.set.SegmentSet.held.Goals as goal

pub returns-clause-known : goal.returns-clause-known
returns-clause-known c =
    (rw c.deref.ensures.value at c.held_in.ensures.known) ∙ sym (get-view _ c.args.name.now c.self.invariant.rising)
    ∙ ap (λ s. get s.view c.args.name.now) c.self.view_is

pub returns-clause-read : goal.returns-clause-read
returns-clause-read c =
    subst (λ s. IfSome c.held_in.result (λ held. IsHeldBy s.schema held.now)) c.self.view_is
    (held_read c.self.inside.schema _ c.held_in.result (rw c.deref.ensures.value at c.held_in.ensures.read) c.self.invariant.read)

pub returns-clause-settled : goal.returns-clause-settled
returns-clause-settled c =
    subst (λ s. IsSettled s.view) c.self.view_is (settled_view (known_entries (flat c.self.inside.blocks.items))
    c.self.invariant.rising c.self.invariant.settled)
