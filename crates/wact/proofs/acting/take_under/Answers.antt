use Rattle.std.proofs.Common.{rules, ◌≢◌}
use Rattle.wsegment.specs.declared.fault.SegmentFault.TheVariants.{NoMemory, TooLong}
use Rattle.wact.specs.Acts.{SegmentRefused}
use Rattle.wact.proofs.Outcomes.{at_err, but_memory, short_by}
use Rattle.wact.proofs.acting.take_under.Goals as goal

pub returns-in-Ok-clause-lacks : goal.returns-in-Ok-clause-lacks
returns-in-Ok-clause-lacks c = at_err c.stored.result (short_by 67108864 _ _ TooLong c.in-Ok.ensures.long (λ e. cc))

pub returns-in_ok-refused_segment-in-Err-clause-takes : goal.returns-in_ok-refused_segment-in-Err-clause-takes
returns-in_ok-refused_segment-in-Err-clause-takes c =
    let other : c.in-Err.fault ≢ NoMemory = search rules in
    SegmentRefused c.in-Err.fault (but_memory other c.in-Err.ensures.refused) (search rules)
