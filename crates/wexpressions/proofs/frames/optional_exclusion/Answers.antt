use Rattle.std.proofs.Common.{arith}
use Rattle.wexpressions.specs.declared.fault.ParseFault.TheVariants.{Syntax}
use Rattle.wexpressions.proofs.Steps.{answers_less, grips, never_then, after_got, after_never}
use Rattle.wexpressions.proofs.Steps.{as_got, as_refused, perhaps_absent, perhaps_present}
use Rattle.wexpressions.proofs.frames.optional_exclusion.Goals as goal

pub returns-in_default : goal.returns-in_default
returns-in_default c = perhaps_absent (never_then (after_never c.in_default.ensures))

pub returns-in_err-exclusion : goal.returns-in_err-exclusion
returns-in_err-exclusion c = rw c.from_residual.ensures (perhaps_present (grips c.in-Some.ensures (omega arith))
    (as_refused Syntax (after_got c.in-Some.ensures (answers_less (omega arith) c.in_err-exclusion.ensures))))

pub returns : goal.returns
returns c = perhaps_present (grips c.in-Some.ensures (omega arith))
    (as_got (after_got c.in-Some.ensures (answers_less (omega arith) c.in_ok-exclusion.ensures)))
