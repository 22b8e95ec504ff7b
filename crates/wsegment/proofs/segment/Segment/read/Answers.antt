use Rattle.wsegment.proofs.KeptFacts.{counted-kept}
use Rattle.wsegment.proofs.segment.Segment.read.Goals as goal

pub kept-requires-clause-judged : goal.kept-requires-clause-judged
kept-requires-clause-judged c = counted-kept c.in_ok-rows.rows c.args.schema.now c.args.bytes.now c.in_ok-rows.ensures.rows
