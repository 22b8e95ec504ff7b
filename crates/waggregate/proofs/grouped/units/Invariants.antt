use Rattle.std.proofs.Common.{◌≡◌, map}
use Rattle.std.specs.Prelude.{All}
use Rattle.wframe.specs.Places.{places}
use Rattle.waggregate.proofs.grouped.units.Given as goal

abbrev pub invariant-loop : goal.invariant-loop
invariant-loop g l =
    let f = l.fold in
    record {
      value : l.parts.items ≡ map (λ k. g.F.Fold.neutral f) (places l.counter);
      parts : All (g.F.Fold.is_part f) l.parts.items;
    }
