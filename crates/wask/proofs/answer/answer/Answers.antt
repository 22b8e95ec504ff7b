use Rattle.wquery.specs.QueryTree.{view_query}
use Rattle.wplan.specs.Plans.{plans}
use Rattle.wask.proofs.Accepted.{resolved_is_sound}
use Rattle.wask.proofs.Answered.{refused_on_rows}
use Rattle.wask.proofs.answer.answer.Goals as goal

pub answer_text-requires : goal.answer_text-requires
answer_text-requires c = record {
  sound = resolved_is_sound c.schema.result.now (view_query c.args.query.now)
      (plans c.in-Ok.resolved) c.in-Ok.ensures;
}

pub returns-in_ok-make-in-Ok-clause-unread : goal.returns-in_ok-make-in-Ok-clause-unread
returns-in_ok-make-in-Ok-clause-unread c = refused_on_rows c.answer_text.result _ _ _ c.answer_text.ensures.answer
