use Rattle.std.proofs.Common.{◌++◌, ◌∙◌, ap}
use Rattle.wplan.specs.Formula.{formula}
use Rattle.wrows.specs.declared.fault.AnswerFault.TheVariants.{OutOfRange}
use Rattle.wrows.specs.Laid.{rows_seen}
use Rattle.wrows.specs.Outcomes.{unless}
use Rattle.wtable.proofs.HeldFacts.{none_decided, rows_decided}
use Rattle.wtable.proofs.kept_rows.push_rows_where.Goals as goal

pub returns-in_ok-push_all_passing-in-Some-clause-gives : goal.returns-in_ok-push_all_passing-in-Some-clause-gives
returns-in_ok-push_all_passing-in-Some-clause-gives c =
    let t = formula c.args.condition.now.expr.now in
    let decide = c.args.condition.now.decide c.in-Some.tests c.in-Some.is in
    rw (← c.in_ok-segment.ensures) (ap (λ b. unless b OutOfRange (tt {0}))
    (none_decided c.in-Some.tests.tests.items t c.in_ok-segment.segment.now.rows decide))

pub returns-in_ok-push_all_passing-in-Some-clause-added : goal.returns-in_ok-push_all_passing-in-Some-clause-added
returns-in_ok-push_all_passing-in-Some-clause-added c =
    let t = formula c.args.condition.now.expr.now in
    let decide = c.args.condition.now.decide c.in-Some.tests c.in-Some.is in
    rw (← c.in_ok-segment.ensures) (c.in_ok-push_all_passing-in-Some.ensures ∙ ap (λ l. rows_seen c.args.held.now.items ++ l)
    (rows_decided c.in-Some.tests.tests.items t c.in_ok-segment.segment.now.rows decide))
