use Rattle.std.proofs.Common.{refl, arith}
use Rattle.wexpressions.proofs.Steps.{answers_less, after_got, after_never, either_first, either_second, handed_on, never_then}
use Rattle.wexpressions.proofs.Parts.{takes_tokens}
use Rattle.wparser.proofs.Asks.{no_column, part_falls}
use Rattle.wparser.proofs.groupings.PartsElement.read.Goals as goal

pub returns-in_default-clause-spelled : goal.returns-in_default-clause-spelled
returns-in_default-clause-spelled c = either_first (after_never c.in_default.ensures) c.in_ok-columns.ensures

pub returns-in_default-clause-shorter : goal.returns-in_default-clause-shorter
returns-in_default-clause-shorter c = takes_tokens _ _ (part_falls {n = c.args.depth}) (returns-in_default-clause-spelled c).found

pub returns-in_err-columns-2-clause-spelled : goal.returns-in_err-columns-2-clause-spelled
returns-in_err-columns-2-clause-spelled c = handed_on _ _ _ _ c.from_residual-in_err-columns-2.ensures.1
    (either_second (never_then (no_column c.in-Some.ensures refl))
    (after_got c.in-Some.ensures (answers_less (omega arith) c.in_err-columns-2.ensures)))

pub returns-clause-spelled : goal.returns-clause-spelled
returns-clause-spelled c = either_second (never_then (no_column c.in-Some.ensures refl))
    (after_got c.in-Some.ensures (answers_less (omega arith) c.in_ok-columns-2.ensures))

pub returns-clause-shorter : goal.returns-clause-shorter
returns-clause-shorter c = takes_tokens _ _ (part_falls {n = c.args.depth}) (returns-clause-spelled c).found
