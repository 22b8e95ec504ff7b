use Rattle.wquery.specs.QueryTree.{view_query}
use Rattle.wask.proofs.Answered.{answered_by}
use Rattle.wask.proofs.answer.ask.Goals as goal

pub returns-clause-answer : goal.returns-clause-answer
returns-clause-answer c = answered_by c.args.set.now.schema c.args.set.now.view c.args.text.now
    (view_query c.in_ok-query.query) (λ bytes. bytes.items) c.answer.result c.in_ok-query.ensures.reads c.answer.ensures.answer

pub returns-clause-lacks : goal.returns-clause-lacks
returns-clause-lacks c = λ _. c.in_ok-query.ensures.reads.0
