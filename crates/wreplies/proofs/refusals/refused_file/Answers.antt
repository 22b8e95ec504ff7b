use Rattle.wreplies.proofs.Outcomes.{on_err_then}
use Rattle.wreplies.proofs.refusals.refused_file.Goals as goal

pub returns-in-Segment-clause-lacks : goal.returns-in-Segment-clause-lacks
returns-in-Segment-clause-lacks c = on_err_then c.refused_segment_of_file.result _ _ c.refused_segment_of_file.ensures.lacks
    (λ has_row. (c.in-Segment.refused, c.in-Segment.is, has_row))
