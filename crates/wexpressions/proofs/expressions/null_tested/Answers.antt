use Rattle.std.proofs.Common.{arith, refl}
use Rattle.wquery.proofs.Says.{is_null_says}
use Rattle.wexpressions.proofs.Steps.{grips, got_along, after_leads, then_got, after_got, after_missing}
use Rattle.wexpressions.proofs.Steps.{after_never, perhaps_absent, perhaps_present, done_got}
use Rattle.wexpressions.proofs.Parts.{optional_answers}
use Rattle.wexpressions.proofs.expressions.null_tested.Goals as goal

pub returns-in_default : goal.returns-in_default
returns-in_default c = perhaps_absent (after_never c.in_default.ensures)

pub returns-in_default-keyword : goal.returns-in_default-keyword
returns-in_default-keyword c = perhaps_present (grips c.in-Some.ensures (omega arith))
    (after_got c.in-Some.ensures (then_got (λ n. after_leads (omega arith)) (optional_answers {k = 25} _ (omega arith)
    c.optional_not-negated.ensures.here c.optional_not-negated.ensures.absent) (after_missing c.in_default-keyword.ensures)))

pub returns : goal.returns
returns c = got_along (is_null_says _ _ _ c.in_ok-operand.ensures.ok) refl (perhaps_present (grips c.in-Some.ensures (omega arith))
    (after_got c.in-Some.ensures (then_got (λ n. after_leads (omega arith)) (optional_answers {k = 25} _ (omega arith)
    c.optional_not-negated.ensures.here c.optional_not-negated.ensures.absent) (after_got c.in-Some-keyword.ensures done_got))))
