use Rattle.std.proofs.Common.{ℕ, ◌++◌, ◌∷◌, []}
use Rattle.std.proofs.lemmas.List.Elements.{All-push, All-same}
use Rattle.waggregate.proofs.GroupFacts.{mapped_more}
use Rattle.waggregate.proofs.grouped.units.Goals as goal

pub loop-preserved : goal.loop-preserved
loop-preserved g c =
    let f = c.args.fold.now in
    record {
      value = mapped_more (λ (k : ℕ). g.F.Fold.neutral f) c.loop.counter c.loop.parts.items c.push.new.self.items
          c.unit.result c.loop.invariant.value c.in_ok-push.ensures.items c.unit.ensures.value;
      parts = All-same (g.F.Fold.is_part f) c.push.new.self.items (c.loop.parts.items ++ c.unit.result ∷ [])
          c.in_ok-push.ensures.items (All-push (g.F.Fold.is_part f) c.loop.parts.items c.unit.result c.loop.invariant.parts
          c.unit.ensures.part);
    }
