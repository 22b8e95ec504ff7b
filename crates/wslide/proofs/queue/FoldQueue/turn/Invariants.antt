use Rattle.std.proofs.Common.{◌≡◌, ◌+◌, vec_len}
use Rattle.std.specs.Prelude.{All}
use Rattle.wslide.specs.Queue.{part_count}
use Rattle.wslide.proofs.Stacks.{IsTurned}
use Rattle.wslide.proofs.queue.FoldQueue.turn.Given as goal

abbrev pub invariant-loop-part : goal.invariant-loop-part
invariant-loop-part g l =
    let f = l.fold in
    record {
      turned : IsTurned (g.F.Fold.is_part f) (g.F.Fold.neutral f) (g.F.Fold.joined f) l.fn.self.back.items l.self.back.items
          l.self.front.items l.below;
      front : All (g.F.Fold.is_part f) l.self.front.items;
      back : All (g.F.Fold.is_part f) l.self.back.items;
      below_part : g.F.Fold.is_part f l.below;
      limit : l.self.limit ≡ l.fn.self.limit;
      count : part_count l.self ≡ part_count l.fn.self;
      joins : g.F.Fold.count l.meter + vec_len l.self.back ≡ g.F.Fold.count l.fn.meter + vec_len l.fn.self.back;
    }

abbrev pub decreases-loop-part : goal.decreases-loop-part
decreases-loop-part g l = vec_len l.self.back
