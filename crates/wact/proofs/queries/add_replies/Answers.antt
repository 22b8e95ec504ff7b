use Rattle.std.proofs.Common.{◌∙◌}
use Rattle.wact.proofs.Replying.{loop_replies}
use Rattle.wact.proofs.queries.add_replies.Goals as goal

pub loop-query-preserved : goal.loop-query-preserved
loop-query-preserved c = record {
  same = c.in_ok-add_reply.ensures.same ∙ c.loop-query.invariant.same;
  follow = loop_replies _ _ c.args.queries.now c.loop-query.query-index _ _ _ _ _ _ _ c.loop-query-test.true
      c.loop-query.invariant.follow (rw c.loop-query.invariant.same at c.in_ok-add_reply.ensures.adds);
}
