use Rattle.std.proofs.Common.{length, ap, arith}
use Rattle.wframe.specs.declared.frame.Span.{Span}
use Rattle.waggregate.proofs.BatchFacts.{begins_before}
use Rattle.waggregate.proofs.batch.batch_from.Goals as goal

pub slice_bounds-result-count : goal.slice_bounds-result-count
slice_bounds-result-count c =
    let all = c.args.partitions.now in
    let before = begins_before all.spans (length all.keys) c.args.from c.end_of_batch-to.result c.requires.tiles
    c.end_of_batch-to.ensures.some c.end_of_batch-to.ensures.within in
    omega (
      arith,
      before,
      ap (λ (s : Span). s.from) c.span-first.ensures.span,
      ap (λ (s : Span). s.to) c.span-last.ensures.span,
    )

pub slice_bounds-result-start : goal.slice_bounds-result-start
slice_bounds-result-start c =
    let all = c.args.partitions.now in
    let before = begins_before all.spans (length all.keys) c.args.from c.end_of_batch-to.result c.requires.tiles
    c.end_of_batch-to.ensures.some c.end_of_batch-to.ensures.within in
    omega (
      arith,
      before,
      ap (λ (s : Span). s.from) c.span-first.ensures.span,
      ap (λ (s : Span). s.to) c.span-last.ensures.span,
    )
