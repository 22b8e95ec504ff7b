use Rattle.std.proofs.Common.{◌∙◌, ap, sym}
use Rattle.std.specs.List.{filter_map}
use Rattle.wentries.specs.Knowledge.{first_of, floor_number}
use Rattle.wentries.specs.Blocks.{flat}
use Rattle.wset.proofs.Maps.{entries-is}
use Rattle.wset.proofs.set.SegmentSet.floor.Goals as goal

pub returns : goal.returns
returns c =
    (rw c.deref.ensures.value at c.floor_in.ensures)
    ∙ ap (λ l. first_of (filter_map (floor_number c.args.origin.now) l))
    (sym (entries-is (flat c.self.inside.blocks.items) c.args.self.now.view c.self.invariant.rising (ap (λ s. s.view) c.self.view_is)))
