use Rattle.std.proofs.Common.{arith}
use Rattle.wexpressions.specs.declared.fault.ParseFault.TheVariants.{Syntax}
use Rattle.wexpressions.proofs.Steps.{grips, missing, never_then, after_got, after_never, as_got}
use Rattle.wexpressions.proofs.Steps.{as_refused, one_got, perhaps_absent, perhaps_present}
use Rattle.wexpressions.proofs.frames.nulls_placed.Goals as goal

pub returns-in_default : goal.returns-in_default
returns-in_default c = perhaps_absent (never_then (after_never c.in_default.ensures))

pub returns-in_err-nulls : goal.returns-in_err-nulls
returns-in_err-nulls c = rw c.from_residual.ensures (perhaps_present (grips c.in-Some.ensures (omega arith))
    (as_refused Syntax (after_got c.in-Some.ensures (missing c.in_err-nulls.ensures))))

pub returns : goal.returns
returns c = perhaps_present (grips c.in-Some.ensures (omega arith)) (as_got (after_got c.in-Some.ensures (one_got c.in_ok-nulls.ensures)))
