use Rattle.std.proofs.Common.{◌≡◌, ℕ, ◌++◌, ◌+◌, ◌≤◌, map, length}
use Rattle.std.specs.Prelude.{All}
use Rattle.wframe.specs.Places.{places, IsRisen}
use Rattle.wframe.specs.declared.frame.Span.{Span}
use Rattle.wframe.specs.Frame.{frame_rows, frame_extent}
use Rattle.wslide.specs.Laws.{rows_fold, total}
use Rattle.wslide.specs.Rows.{parts_from}
use Rattle.wslide.proofs.running.push_running_folds.Given as goal

abbrev pub invariant-loop-row : goal.invariant-loop-row
invariant-loop-row g l =
    let f = l.fold in
    let p = l.frames in
    record {
      part : l.part ≡ total (g.F.Fold.neutral f) (g.F.Fold.joined f) (parts_from (g.F.Fold.part_at f) 0 l.end);
      is_part : g.F.Fold.is_part f l.part;
      within : l.end ≤ g.F.Fold.rows f;
      rises : (s : Span) → ((before : ℕ) → before ≤ l.row → IsRisen (length p.keys) (frame_extent p before) s) → l.end ≤ s.to;
      folds : l.folds.items ≡ l.fn.folds.items ++ map (λ row. rows_fold (g.F.Fold.neutral f) (g.F.Fold.joined f)
          (g.F.Fold.part_at f) (frame_rows p row)) (places l.row);
      parts : All (g.F.Fold.is_part f) (map (λ row. rows_fold (g.F.Fold.neutral f) (g.F.Fold.joined f) (g.F.Fold.part_at f)
          (frame_rows p row)) (places l.row));
      joins : g.F.Fold.count l.meter ≡ g.F.Fold.count l.fn.meter + l.end;
    }
