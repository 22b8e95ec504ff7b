use Rattle.std.proofs.Common.{arith}
use Rattle.wexpressions.specs.declared.fault.ParseFault.TheVariants.{Syntax}
use Rattle.wexpressions.proofs.Steps.{stops_more, never_then, any_leads, done_leads, then_got, then_refused, as_got}
use Rattle.wexpressions.proofs.Steps.{as_refused, one_got, perhaps_absent, perhaps_present, done_got}
use Rattle.wexpressions.proofs.Parts.{one_grips, mode_grip}
use Rattle.wexpressions.proofs.frames.optional_frame.Goals as goal

pub returns-in_default : goal.returns-in_default
returns-in_default c = perhaps_absent (never_then (never_then c.in_default.ensures))

pub returns-in_default-extent : goal.returns-in_default-extent
returns-in_default-extent c = perhaps_present (λ h. one_grips mode_grip c.in-Some.ensures (stops_more (omega arith) _ h))
    (as_refused Syntax (then_got {j = 31} (λ m. any_leads) (one_got c.in-Some.ensures)
    (then_refused Syntax (λ e. any_leads {k = 3}) c.in_default-extent.ensures)))

pub returns-in_default-optional_exclusion : goal.returns-in_default-optional_exclusion
returns-in_default-optional_exclusion c =
    perhaps_present (λ h. one_grips mode_grip c.in-Some.ensures (stops_more (omega arith) _ h))
    (as_refused Syntax (then_got {j = 31} (λ m. any_leads) (one_got c.in-Some.ensures)
    (then_got (λ e. any_leads) c.in-Some-extent.ensures (then_refused Syntax (λ x. done_leads (omega arith))
    c.in_default-optional_exclusion.ensures))))

pub returns : goal.returns
returns c = perhaps_present (λ h. one_grips mode_grip c.in-Some.ensures (stops_more (omega arith) _ h))
    (as_got (then_got {j = 31} (λ m. any_leads) (one_got c.in-Some.ensures)
    (then_got (λ e. any_leads) c.in-Some-extent.ensures (then_got (λ x. done_leads (omega arith))
    c.in-Some-optional_exclusion.ensures done_got))))
