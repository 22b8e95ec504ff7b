use Rattle.std.proofs.Common.{arith}
use Rattle.wexpressions.proofs.Steps.{answers_less, any_leads, then_got, then_refused, after_got}
use Rattle.wexpressions.proofs.Steps.{after_missing, as_got, as_refused, handed_on}
use Rattle.wexpressions.proofs.Parts.{takes_tokens}
use Rattle.wparser.proofs.Asks.{entry_falls}
use Rattle.wparser.proofs.queries.WindowEntriesElement.read.Goals as goal

pub returns-in_err-name-clause-spelled : goal.returns-in_err-name-clause-spelled
returns-in_err-name-clause-spelled c = handed_on _ _ _ _ c.from_residual.ensures.1 (then_refused _ (λ n. any_leads {k = 14})
    c.in_err-name.ensures)

pub returns-in_default-clause-spelled : goal.returns-in_default-clause-spelled
returns-in_default-clause-spelled c = then_got (λ n. any_leads) c.in_ok-name.ensures (after_missing c.in_default.ensures)

pub returns-in_default-symbol-clause-spelled : goal.returns-in_default-symbol-clause-spelled
returns-in_default-symbol-clause-spelled c =
    then_got (λ n. any_leads) c.in_ok-name.ensures (after_got c.in-Some.ensures (after_missing c.in_default-symbol.ensures))

pub returns-in_err-window-clause-spelled : goal.returns-in_err-window-clause-spelled
returns-in_err-window-clause-spelled c = handed_on _ _ _ _ c.from_residual-in_err-window.ensures.1
    (then_got (λ n. any_leads) c.in_ok-name.ensures
    (after_got c.in-Some.ensures (after_got c.in-Some-symbol.ensures
    (as_refused _ (answers_less (omega arith) c.in_err-window.ensures)))))

pub returns-clause-spelled : goal.returns-clause-spelled
returns-clause-spelled c = then_got (λ n. any_leads) c.in_ok-name.ensures
    (after_got c.in-Some.ensures (after_got c.in-Some-symbol.ensures (as_got (answers_less (omega arith) c.in_ok-window.ensures))))

pub returns-clause-shorter : goal.returns-clause-shorter
returns-clause-shorter c = takes_tokens _ _ (entry_falls c.args.depth) (returns-clause-spelled c).found
