use Rattle.std.proofs.Common.{◌∙◌, sym, refl}
use Rattle.wset.proofs.Singles.{take_same}
use Rattle.wset.proofs.Sets.{known_long, read_long, same_view}
use Rattle.wset.proofs.set.SegmentSet.take_beside.Goals as goal

pub returns-then-is_some-clause-ok : goal.returns-then-is_some-clause-ok
returns-then-is_some-clause-ok c =
    same_view c.args.self.now _ (take_same c.args.self.now.view c.args.name c.args.bytes.now c.args.bytes.now
    c.known_segment.ensures.settled (c.known_segment.ensures.known.0 (sym c.is_some.ensures ∙ c.if-is_some.true)) refl)

pub returns-then-is_some-clause-long : goal.returns-then-is_some-clause-long
returns-then-is_some-clause-long c = λ long. absurd (known_long c.args.self.now.schema c.args.bytes.now c.known_segment.result
    c.known_segment.ensures.bytes c.known_segment.ensures.read (sym c.is_some.ensures ∙ c.if-is_some.true) long)

pub returns-in_err-shared-clause-long : goal.returns-in_err-shared-clause-long
returns-in_err-shared-clause-long c = λ long. absurd (read_long c.args.known.now.schema c.in-Some.kept.now.content c.args.bytes.now
    c.in-Some.ensures.bytes c.in-Some.ensures.read long)

pub returns-in_err-taken-clause-long : goal.returns-in_err-taken-clause-long
returns-in_err-taken-clause-long c = λ long. absurd (read_long c.args.known.now.schema c.in-Some.kept.now.content c.args.bytes.now
    c.in-Some.ensures.bytes c.in-Some.ensures.read long)

pub returns-clause-long : goal.returns-clause-long
returns-clause-long c = λ long. absurd (read_long c.args.known.now.schema c.in-Some.kept.now.content c.args.bytes.now
    c.in-Some.ensures.bytes c.in-Some.ensures.read long)
