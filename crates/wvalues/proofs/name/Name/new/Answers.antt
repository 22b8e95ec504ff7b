use Rattle.std.proofs.Common.{arith, refl}
use Rattle.wvalues.proofs.Padding.{stored_name}
use Rattle.wvalues.proofs.name.Name.new.Goals as goal

pub invariant_of-result : goal.invariant_of-result
invariant_of-result c = stored_name c.args.origin.now _ c.args.number (omega (arith, c.requires.origin.short)) c.requires
    (rw c.copy_from_slice.ensures.after refl)
