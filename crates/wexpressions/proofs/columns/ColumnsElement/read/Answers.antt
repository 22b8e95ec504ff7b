use Rattle.std.proofs.Common.{arith}
use Rattle.wexpressions.proofs.Steps.{answers_less, grips, any_leads, then_got, then_refused, after_got, after_never}
use Rattle.wexpressions.proofs.Steps.{as_got, as_refused, perhaps_absent, perhaps_present, handed_on}
use Rattle.wexpressions.proofs.Parts.{takes_tokens}
use Rattle.wexpressions.proofs.Fits.{column_falls}
use Rattle.wexpressions.proofs.columns.ColumnsElement.read.Goals as goal

pub returns-in_err-first-clause-spelled : goal.returns-in_err-first-clause-spelled
returns-in_err-first-clause-spelled c = handed_on _ _ _ _ c.from_residual.ensures.1
    (then_refused _ (λ n. any_leads {k = 14}) c.in_err-first.ensures)

pub returns-in_default-clause-spelled : goal.returns-in_default-clause-spelled
returns-in_default-clause-spelled c = then_got (λ n. any_leads) c.in_ok-first.ensures (perhaps_absent (after_never c.in_default.ensures))

pub returns-in_default-clause-shorter : goal.returns-in_default-clause-shorter
returns-in_default-clause-shorter c = takes_tokens _ _ column_falls (returns-in_default-clause-spelled c).found

pub returns-in_err-name-clause-spelled : goal.returns-in_err-name-clause-spelled
returns-in_err-name-clause-spelled c = handed_on _ _ _ _ c.from_residual-in_err-name.ensures.1
    (then_got (λ n. any_leads) c.in_ok-first.ensures (perhaps_present (grips c.in-Some.ensures (omega arith))
    (after_got c.in-Some.ensures (as_refused _ (answers_less (omega arith) c.in_err-name.ensures)))))

pub returns-clause-spelled : goal.returns-clause-spelled
returns-clause-spelled c = then_got (λ n. any_leads) c.in_ok-first.ensures
    (perhaps_present (grips c.in-Some.ensures (omega arith))
    (after_got c.in-Some.ensures (as_got (answers_less (omega arith) c.in_ok-name.ensures))))

pub returns-clause-shorter : goal.returns-clause-shorter
returns-clause-shorter c = takes_tokens _ _ column_falls (returns-clause-spelled c).found
