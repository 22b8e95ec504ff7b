use Rattle.std.proofs.Common.{map, refl, ap, arith}
use Rattle.wquery.specs.GroupElements.{view_group_entry}
use Rattle.wexpressions.proofs.Steps.{answers_less, got_along, after_got, after_never, as_got, as_refused}
use Rattle.wexpressions.proofs.Steps.{either_first, either_second, handed_on, never_then}
use Rattle.wexpressions.proofs.Parts.{takes_tokens}
use Rattle.wparser.proofs.Asks.{element_falls, no_lone_entry}
use Rattle.wparser.proofs.groupings.GroupElementsElement.read.Goals as goal

pub returns-in_err-entry-clause-spelled : goal.returns-in_err-entry-clause-spelled
returns-in_err-entry-clause-spelled c = handed_on _ _ _ _ c.from_residual.ensures.1
    (either_second (after_never c.in_default.ensures) (as_refused _ c.in_err-entry.ensures))

pub returns-in_default-clause-spelled : goal.returns-in_default-clause-spelled
returns-in_default-clause-spelled c = got_along (ap (map view_group_entry) c.in_ok-entries.ensures) refl
    (either_second (after_never c.in_default.ensures) (as_got c.in_ok-entry.ensures))

pub returns-in_default-clause-shorter : goal.returns-in_default-clause-shorter
returns-in_default-clause-shorter c = takes_tokens _ _ (element_falls {n = c.args.depth}) (returns-in_default-clause-spelled c).found

pub returns-in_err-entries-2-clause-spelled : goal.returns-in_err-entries-2-clause-spelled
returns-in_err-entries-2-clause-spelled c = handed_on _ _ _ _ c.from_residual-in_err-entries-2.ensures.1
    (either_first (never_then (no_lone_entry c.in-Some.ensures refl (λ q. cc) (λ q. cc)))
    (after_got c.in-Some.ensures (answers_less (omega arith) c.in_err-entries-2.ensures)))

pub returns-clause-spelled : goal.returns-clause-spelled
returns-clause-spelled c = either_first (never_then (no_lone_entry c.in-Some.ensures refl (λ q. cc) (λ q. cc)))
    (after_got c.in-Some.ensures (answers_less (omega arith) c.in_ok-entries-2.ensures))

pub returns-clause-shorter : goal.returns-clause-shorter
returns-clause-shorter c = takes_tokens _ _ (element_falls {n = c.args.depth}) (returns-clause-spelled c).found
