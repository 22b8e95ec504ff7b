use Rattle.std.proofs.Common.{◌∙◌, ap, sym, subst}
use Rattle.std.specs.List.{list_any}
use Rattle.wset.specs.Views.{IsSettled, is_below}
use Rattle.wentries.specs.Knowledge.{is_over}
use Rattle.wentries.specs.Blocks.{flat}
use Rattle.wentries.specs.Entries.{known_entries}
use Rattle.wset.proofs.Settling.{settled_view}
use Rattle.wset.proofs.Maps.{entries-view}
use Rattle.wset.proofs.set.SegmentSet.is_low.Goals as goal

pub returns-clause-low : goal.returns-clause-low
returns-clause-low c =
    (rw c.deref.ensures.value at c.is_low.ensures)
    ∙ ap (list_any (is_over c.args.name.now)) (sym (entries-view (flat c.self.inside.blocks.items) c.self.invariant.rising))
    ∙ ap (λ s. is_below s.view c.args.name.now) c.self.view_is

pub returns-clause-settled : goal.returns-clause-settled
returns-clause-settled c =
    subst (λ s. IsSettled s.view) c.self.view_is (settled_view (known_entries (flat c.self.inside.blocks.items))
    c.self.invariant.rising c.self.invariant.settled)
