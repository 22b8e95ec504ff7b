use Rattle.std.proofs.Common.{◌≡◌, ◌<◌, ◌≤◌, subst, sym, ap, ◌∙◌, length, arith}
use Rattle.std.specs.Prelude.{slice_range}
use Rattle.wframe.specs.declared.frame.Span.{Span}
use Rattle.wframe.specs.KeyRows.{key_lists, sort_keys}
use Rattle.wframe.specs.FrameEnds.{HasFrames}
use Rattle.wframe.specs.Places.{span_at}
use Rattle.wframe.proofs.PartitionFacts.{length-slice}
use Rattle.wframe.proofs.partitions.Partitions.partition.Goals as goal

pub part-requires-clause-ordered : goal.part-requires-clause-ordered
part-requires-clause-ordered c = let l = c.span-span.ensures.some in omega (arith, l)

pub part-requires-clause-within : goal.part-requires-clause-within
part-requires-clause-within c = subst (λ q. c.span-span.result.to ≤ length q.keys) (sym c.self.view_is) c.span-span.ensures.within

pub new-requires-clause-span : goal.new-requires-clause-span
new-requires-clause-span c =
    let within = subst (λ q. c.span-span.result.to ≤ length q.keys) (sym c.self.view_is) c.span-span.ensures.within in
    let l = c.span-span.ensures.some in
    let n = ap length c.part.ensures.lists ∙ length-slice (key_lists c.self.inside.keys) c.span-span.result.from
    c.span-span.result.to within in
    omega (arith, l, n)

pub new-requires-clause-frames : goal.new-requires-clause-frames
new-requires-clause-frames c =
    let p = c.self.inside in
    let k = c.args.partition in
    let s = c.span-span.result in
    let h = subst (λ q. k < length q.spans) (sym c.self.view_is) c.requires in
    let is = subst (λ q. s ≡ span_at q.spans k) (sym c.self.view_is) c.span-span.ensures.span in
    subst (λ order. HasFrames (record { order = order; keys = key_lists c.part.result; frame = p.frame }) s.from p.ends)
    (sym c.part.ensures.keys)
    (subst (λ lists. HasFrames (record { order = sort_keys p.keys; keys = lists; frame = p.frame }) s.from p.ends)
    (sym c.part.ensures.lists)
    (subst (λ (x : Span). HasFrames (record {
      order = sort_keys p.keys;
      keys = slice_range (key_lists p.keys) x.from x.to;
      frame = p.frame;
    }) x.from p.ends) (sym is) (c.self.invariant.each k h)))
