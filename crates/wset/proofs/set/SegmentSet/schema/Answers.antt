use Rattle.wentries.specs.Blocks.{flat}
use Rattle.std.proofs.Common.{refl, sym, subst, IsOk}
use Rattle.std.specs.List.{All}
use Rattle.wsegment.specs.Rows.{rows_of}
use Rattle.wset.specs.Sets.{LivesAreRead}
use Rattle.wset.specs.Views.{IsSettled}
use Rattle.wentries.specs.Entries.{known_entries}
use Rattle.wset.proofs.Settling.{settled_view}
use Rattle.wset.proofs.Maps.{lives-view}
use Rattle.wset.proofs.Tables.{read_lives}
use Rattle.wset.proofs.set.SegmentSet.schema.Goals as goal

pub returns-clause-read : goal.returns-clause-read
returns-clause-read c =
    subst LivesAreRead c.self.view_is
    (subst (All (λ e. IsOk (rows_of c.self.inside.schema e.1)))
    (sym (lives-view (flat c.self.inside.blocks.items) _ c.self.invariant.rising refl))
    (read_lives c.self.inside.schema (flat c.self.inside.blocks.items) c.self.invariant.read))

pub returns-clause-settled : goal.returns-clause-settled
returns-clause-settled c =
    subst (λ s. IsSettled s.view) c.self.view_is (settled_view (known_entries (flat c.self.inside.blocks.items))
    c.self.invariant.rising c.self.invariant.settled)
