use Rattle.std.proofs.Common.{arith}
use Rattle.wplaces.proofs.SpanPlaces.{found_here, found_later}
use Rattle.wplaces.proofs.frame_values.place_at.Goals as goal

pub returns-then-left-length : goal.returns-then-left-length
returns-then-left-length c = found_here c.args.spans.now c.loop-span.span-index c.loop-span.left _ _ (omega arith)
    (omega arith) c.loop-span.invariant

pub loop-span-preserved : goal.loop-span-preserved
loop-span-preserved c = rw c.saturating_sub-length.ensures (found_later c.args.spans.now c.loop-span.span-index
    c.loop-span.left _ _ (omega arith) (omega arith) c.loop-span.invariant)
