use Rattle.std.proofs.Common.{refl, arith}
use Rattle.wexpressions.proofs.Steps.{answers_less, after_got, after_never, as_got, as_refused, either_first, either_second, handed_on}
use Rattle.wexpressions.proofs.Parts.{takes_tokens}
use Rattle.wparser.proofs.Asks.{no_lone_entry, set_falls}
use Rattle.wparser.proofs.groupings.SetEntriesElement.read.Goals as goal

pub returns-in_default-clause-spelled : goal.returns-in_default-clause-spelled
returns-in_default-clause-spelled c = either_first (after_never c.in_default.ensures) c.in_ok-entry.ensures

pub returns-in_default-clause-shorter : goal.returns-in_default-clause-shorter
returns-in_default-clause-shorter c = takes_tokens _ _ (set_falls {n = c.args.depth}) (returns-in_default-clause-spelled c).found

pub returns-in_err-columns-clause-spelled : goal.returns-in_err-columns-clause-spelled
returns-in_err-columns-clause-spelled c = handed_on _ _ _ _ c.from_residual-in_err-columns.ensures.1
    (either_second (no_lone_entry c.in-Some.ensures refl (λ q. cc) (λ q. cc))
    (after_got c.in-Some.ensures (as_refused _ (answers_less (omega arith) c.in_err-columns.ensures))))

pub returns-clause-spelled : goal.returns-clause-spelled
returns-clause-spelled c = either_second (no_lone_entry c.in-Some.ensures refl (λ q. cc) (λ q. cc))
    (after_got c.in-Some.ensures (as_got (answers_less (omega arith) c.in_ok-columns.ensures)))

pub returns-clause-shorter : goal.returns-clause-shorter
returns-clause-shorter c = takes_tokens _ _ (set_falls {n = c.args.depth}) (returns-clause-spelled c).found
