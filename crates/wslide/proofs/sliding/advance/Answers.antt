use Rattle.std.proofs.Common.{◌≡◌, ◌+◌, ◌-◌, ◌++◌, ◌∷◌, [], sym, ap, ◌∙◌, arith, subst}
use Rattle.wslide.specs.Queue.{part_count, IsFilledBy}
use Rattle.wslide.specs.Rows.{parts_from}
use Rattle.wslide.proofs.Spans.{length-parts_from, parts_from-push, parts_from-drop}
use Rattle.wslide.proofs.sliding.advance.Goals as goal

pub push-requires-clause-kept : goal.push-requires-clause-kept
push-requires-clause-kept g c = c.loop-row.invariant.filled.kept

pub push-requires-clause-space : goal.push-requires-clause-space
push-requires-clause-space g c =
    let n : part_count c.loop-row.queue ≡ c.loop-row.row - c.args.held.from = sym c.loop-row.invariant.filled.count
    ∙ length-parts_from (g.F.Fold.part_at c.args.fold.now) c.args.held.from (c.loop-row.row - c.args.held.from) in
    omega arith

pub loop-row-preserved : goal.loop-row-preserved
loop-row-preserved g c =
    let f = c.args.fold.now in
    let at = g.F.Fold.part_at f in
    let from = c.args.held.from in
    let row = c.loop-row.row in
    let more : parts_from at from (row - from) ++ c.of.result ∷ [] ≡ parts_from at from (row + 1 - from) =
    ap (λ p. parts_from at from (row - from) ++ p ∷ []) c.of.ensures.value ∙ sym (parts_from-push at from row (omega arith)) in
    record {
      filled = subst (λ ps. IsFilledBy (g.F.Fold.is_part f) (g.F.Fold.neutral f) (g.F.Fold.joined f) ps c.push.new.self)
          more (c.push.ensures.filled (parts_from at from (row - from)) c.loop-row.invariant.filled);
      capacity = c.push.ensures.capacity ∙ c.loop-row.invariant.capacity;
      not_less = omega arith;
      joins = omega arith;
    }

pub pop-requires-clause-kept : goal.pop-requires-clause-kept
pop-requires-clause-kept g c = c.loop.invariant.filled.kept

pub pop-requires-clause-some : goal.pop-requires-clause-some
pop-requires-clause-some g c =
    let n : part_count c.loop.queue ≡ c.args.span.to - c.loop.counter = sym c.loop.invariant.filled.count
    ∙ length-parts_from (g.F.Fold.part_at c.args.fold.now) c.loop.counter (c.args.span.to - c.loop.counter) in
    omega arith

pub pop-requires-clause-room : goal.pop-requires-clause-room
pop-requires-clause-room g c =
    let n : part_count c.loop.queue ≡ c.args.span.to - c.loop.counter = sym c.loop.invariant.filled.count
    ∙ length-parts_from (g.F.Fold.part_at c.args.fold.now) c.loop.counter (c.args.span.to - c.loop.counter) in
    omega arith

pub loop-preserved : goal.loop-preserved
loop-preserved g c =
    let f = c.args.fold.now in
    let at = g.F.Fold.part_at f in
    let from = c.loop.counter in
    let to = c.args.span.to in
    record {
      filled = subst (λ ps. IsFilledBy (g.F.Fold.is_part f) (g.F.Fold.neutral f) (g.F.Fold.joined f) ps c.pop.new.self)
          (parts_from-drop at from to (omega arith)) (c.pop.ensures.filled (parts_from at from (to - from)) c.loop.invariant.filled);
      capacity = c.pop.ensures.capacity ∙ c.loop.invariant.capacity;
      not_less = omega arith;
      joins = omega arith;
    }
