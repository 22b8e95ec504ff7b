use Rattle.std.proofs.Common.{arith, rules, Some}
use Rattle.std.proofs.lemmas.List.Elements.{All-same, All-push, All-pop}
use Rattle.wslide.proofs.Stacks.{turned_more}
use Rattle.wslide.proofs.queue.FoldQueue.turn.Goals as goal

pub loop-part-preserved : goal.loop-part-preserved
loop-part-preserved g c =
    let f = c.args.fold.now in
    let is_part = g.F.Fold.is_part f in
    let neutral = g.F.Fold.neutral f in
    let joined = g.F.Fold.joined f in
    let part = c.in-Some.part in
    let was = c.loop-part in
    let inv = c.loop-part.invariant in
    let below = c.join-below.result in
    let popped = All-pop is_part was.self.back.items c.pop.new.self.items (Some part) c.in-Some.ensures.items inv.back in
    record {
      turned = turned_more is_part neutral joined c.args.self.now.back.items was.self.back.items c.pop.new.self.items
          was.self.front.items c.push_reserved.new.self.items part was.below below c.in-Some.ensures.items
          c.push_reserved.ensures.items c.join-below.ensures.value popped.1 inv.turned;
      front = All-same is_part _ _ c.push_reserved.ensures.items (All-push is_part was.self.front.items below inv.front
          c.join-below.ensures.part);
      back = popped.0;
      below_part = c.join-below.ensures.part;
      limit = search rules;
      count = omega (arith, c.in-Some.ensures.cases, inv.count);
      joins = omega (arith, c.in-Some.ensures.cases, c.join-below.ensures.joins, inv.joins);
    }
