use Rattle.std.proofs.Common.{arith, refl}
use Rattle.wvalues.proofs.Padding.{stored_text}
use Rattle.wvalues.proofs.short.ShortText.new.Goals as goal

pub invariant_of-result : goal.invariant_of-result
invariant_of-result c = stored_text c.args.text.now _ (omega (arith, c.if-len-gt-LONGEST.false)) c.utf8.text
    (rw c.copy_from_slice.ensures.after (rw c.as_bytes.ensures.value refl))
