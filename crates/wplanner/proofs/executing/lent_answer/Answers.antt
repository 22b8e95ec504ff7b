use Rattle.wplan.specs.Plans.{select_plan}
use Rattle.wtable.specs.Tables.{rows_of_set}
use Rattle.wplanner.proofs.LentFacts.{plan_is}
use Rattle.wplanner.proofs.executing.lent_answer.Goals as goal

pub returns-clause-answer : goal.returns-clause-answer
returns-clause-answer c = plan_is (select_plan c.args.placed.now.select.now) (rows_of_set c.args.set.now) c.in_ok-bytes.bytes.items
    c.in_ok-bytes.ensures.text
