use Rattle.std.proofs.Common.{◌∙◌}
use Rattle.wscope.specs.Sources.{all_titled}
use Rattle.wresolve.specs.Judging.{plans_made}
use Rattle.wresolve.proofs.Queried.{fault_over, ok_over}
use Rattle.wresolve.proofs.query.push_over.Goals as goal

pub returns-in-Err-clause-answer : goal.returns-in-Err-clause-answer
returns-in-Err-clause-answer c = λ before h ec em.
    fault_over c.args.schema.now c.args.last (all_titled c.args.columns.now) c.args.query.now before
    (plans_made c.args.made.now) c.select.result c.in-Err.fault c.in-Err.is c.select.ensures h ec

pub returns-in_ok-answer-in-Ok-clause-answer : goal.returns-in_ok-answer-in-Ok-clause-answer
returns-in_ok-answer-in-Ok-clause-answer c = λ before h ec em.
    ok_over c.args.schema.now c.args.last (all_titled c.args.columns.now) c.args.query.now before
    (plans_made c.args.made.now) (plans_made c.push_select.new.made) c.select.result c.in-Ok.selection
    c.in_ok-answer-in-Ok.answer c.in-Ok.is c.select.ensures h ec em c.in_ok-answer-in-Ok.ensures.selections
    c.in_ok-answer-in-Ok.ensures.columns
