use Rattle.wspots.proofs.KnownItems.{AreItems}
use Rattle.wspots.proofs.outputs.Outputs.new.Given as goal

abbrev pub invariant-items : goal.invariant-items
invariant-items l = AreItems l.columns l.items l.item-index l.outputs
