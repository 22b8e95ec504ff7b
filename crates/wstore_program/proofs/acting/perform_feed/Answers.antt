use Rattle.wstore_program.proofs.Performed.{undone_at_once}
use Rattle.wstore_program.proofs.Streamed.{refused_open}
use Rattle.wstore_program.proofs.acting.perform_feed.Goals as goal

pub feed_from-requires-clause-feeds : goal.feed_from-requires-clause-feeds
feed_from-requires-clause-feeds g c = (
  c.requires.stream.0,
  c.hashed_of-hashed.ensures,
  rw (c.in-Ok-Node.field-0-is, c.hashed_of-hashed.ensures) at c.in-Ok-Node.ensures.opens,
)

pub returns-in-Ok-Refused-clause-ended : goal.returns-in-Ok-Refused-clause-ended
returns-in-Ok-Refused-clause-ended g c =
    refused_open _ _ _ _ c.in-Ok-Refused.text _ _ c.requires.stream.0
    (rw (c.in-Ok-Refused.field-0-is, c.hashed_of-hashed.ensures) at c.in-Ok-Refused.ensures.opens) c.refused-acted.ensures

pub returns-in-Err-clause-ended : goal.returns-in-Err-clause-ended
returns-in-Err-clause-ended g c = undone_at_once _ _ _ _ _ _ _ c.requires.stream.1
