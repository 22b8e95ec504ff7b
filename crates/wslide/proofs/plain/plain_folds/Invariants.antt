use Rattle.std.proofs.Common.{◌≡◌, ◌≤◌, ◌+◌, ◌*◌, map}
use Rattle.std.specs.Prelude.{All}
use Rattle.wframe.specs.Places.{places}
use Rattle.wframe.specs.Frame.{frame_rows}
use Rattle.wslide.specs.Laws.{rows_fold}
use Rattle.wslide.proofs.plain.plain_folds.Given as goal

abbrev pub invariant-loop-row : goal.invariant-loop-row
invariant-loop-row g l =
    let f = l.fold in
    record {
      folds : l.folds.items ≡ map (λ row. rows_fold (g.F.Fold.neutral f) (g.F.Fold.joined f) (g.F.Fold.part_at f)
          (frame_rows l.frames row)) (places l.row);
      parts : All (g.F.Fold.is_part f) l.folds.items;
      not_less : g.F.Fold.count l.fn.meter ≤ g.F.Fold.count l.meter;
      joins : g.F.Fold.count l.meter ≤ g.F.Fold.count l.fn.meter + l.row * g.F.Fold.rows f;
    }
