use Rattle.std.proofs.Common.{sym, ap, ◌∙◌}
use Rattle.wruns.specs.Refs.{refs_by}
use Rattle.wentries.specs.Blocks.{flat}
use Rattle.wentries.specs.Keeping.{rows_in}
use Rattle.wset.proofs.KeptOrderFacts.{order_of}
use Rattle.wset.proofs.RunFacts.{rows_live}
use Rattle.wset.proofs.set.SegmentSet.keep_order.Goals as goal

pub invariant_of-self-in-Ok-2 : goal.invariant_of-self-in-Ok-2
invariant_of-self-in-Ok-2 c =
    let told = c.in-Ok.ensures in
    let rows = rows_live c.self.inside c.args.self.now c.self.invariant c.self.view_is in
    record {
      rising = c.self.invariant.rising;
      settled = c.self.invariant.settled;
      counted = c.self.invariant.counted;
      few = c.self.invariant.few;
      read = c.self.invariant.read;
      placed = c.self.invariant.placed;
      starts = c.self.invariant.starts;
      noted = c.self.invariant.noted;
      ordered = order_of c.in-Ok.order c.args.keys.now c.args.rows.now (rows_in (flat c.self.inside.blocks.items)) told.keys
          told.width told.rows (c.requires ∙ ap (refs_by c.args.keys.now) (sym rows));
    }
