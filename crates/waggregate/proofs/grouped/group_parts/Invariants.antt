use Rattle.std.proofs.Common.{◌≡◌, length, map}
use Rattle.std.specs.Prelude.{All}
use Rattle.wframe.specs.Places.{places}
use Rattle.waggregate.proofs.GroupFacts.{part_of}
use Rattle.waggregate.proofs.grouped.group_parts.Given as goal

abbrev pub invariant-loop-row : goal.invariant-loop-row
invariant-loop-row g l =
    let f = l.fold in
    record {
      folds : l.parts.items ≡ map (part_of (g.F.Fold.neutral f) (g.F.Fold.joined f) (g.F.Fold.part_at f) l.groups l.row) (places l.count);
      parts : All (g.F.Fold.is_part f) l.parts.items;
      len : length l.parts.items ≡ l.count;
      joins : g.F.Fold.count l.meter ≡ l.row;
    }
