use Rattle.std.proofs.Common.{arith}
use Rattle.wplaces.proofs.SpanPlaces.{last_here_at, last_before_at}
use Rattle.wplaces.proofs.frame_values.last_place_in.Goals as goal
use Rattle.wplaces.proofs.frame_values.last_place_in.Goals.{then-span, else-span}

pub loop-span-preserved : goal.loop-span-preserved
loop-span-preserved c = elim c.if-span.branch [
  | then-span w ↦ rw w.last-is (last_here_at c.args.spans.now c.loop-span.span-index _ c.loop-span.last _ (omega arith)
      w.if-span.true c.loop-span.invariant)
  | else-span w ↦ rw w.last-is (last_before_at c.args.spans.now c.loop-span.span-index _ c.loop-span.last _ (omega arith)
      w.if-span.false c.loop-span.invariant)
]
