use Rattle.std.proofs.Common.{refl}
use Rattle.wexpressions.proofs.Steps.{got_along, then_got, then_refused, after_got, after_never, as_got}
use Rattle.wexpressions.proofs.Steps.{as_refused, either_first, either_second, done_got, handed_on}
use Rattle.wexpressions.proofs.Parts.{takes_tokens}
use Rattle.wparser.proofs.Asks.{item_leads, item_falls, no_item}
use Rattle.wparser.proofs.queries.ItemsElement.read.Goals as goal

pub returns-in-Some-clause-spelled : goal.returns-in-Some-clause-spelled
returns-in-Some-clause-spelled c = either_first (no_item c.args.depth c.in-Some.ensures) (after_got c.in-Some.ensures done_got)

pub returns-in_err-expression-clause-spelled : goal.returns-in_err-expression-clause-spelled
returns-in_err-expression-clause-spelled c =
    handed_on _ _ _ _ c.from_residual.ensures.1 (either_second (after_never c.in_default.ensures)
    (then_refused _ (λ e. item_leads) c.in_err-expression.ensures))

pub returns-in-Err-clause-spelled : goal.returns-in-Err-clause-spelled
returns-in-Err-clause-spelled c = either_second (after_never c.in_default.ensures)
    (then_got (λ e. item_leads) c.in_ok-expression.ensures (as_refused _ c.in-Err.ensures))

pub returns-clause-spelled : goal.returns-clause-spelled
returns-clause-spelled c = got_along c.item.ensures refl (either_second (after_never c.in_default.ensures)
    (then_got (λ e. item_leads) c.in_ok-expression.ensures (as_got c.in-Ok.ensures)))

pub returns-clause-shorter : goal.returns-clause-shorter
returns-clause-shorter c = takes_tokens _ _ (item_falls c.args.depth) (returns-clause-spelled c).found
