use Rattle.std.proofs.Common.{◌≡◌, ℕ, ◌++◌, ◌+◌, ◌*◌, ◌≤◌, map, length}
use Rattle.std.specs.Prelude.{All}
use Rattle.wframe.specs.declared.frame.Span.{Span}
use Rattle.wframe.specs.Places.{places, IsRisen}
use Rattle.wframe.specs.Frame.{frame_rows, frame_extent}
use Rattle.wslide.specs.Laws.{rows_fold, total}
use Rattle.wslide.specs.Queue.{capacity, owed, IsFilledBy}
use Rattle.wslide.specs.Rows.{span_parts}
use Rattle.wslide.proofs.sliding.push_sliding_folds.Given as goal

abbrev pub invariant-loop-row : goal.invariant-loop-row
invariant-loop-row g l =
    let f = l.fold in
    let p = l.frames in
    record {
      filled : IsFilledBy (g.F.Fold.is_part f) (g.F.Fold.neutral f) (g.F.Fold.joined f) (span_parts (g.F.Fold.part_at f) l.held) l.queue;
      capacity : capacity l.queue ≡ capacity l.fn.queue;
      value : l.part ≡ total (g.F.Fold.neutral f) (g.F.Fold.joined f) (span_parts (g.F.Fold.part_at f) l.held);
      part : g.F.Fold.is_part f l.part;
      ordered : l.held.from ≤ l.held.to;
      within : l.held.to ≤ l.rows;
      rises : (s : Span) → ((before : ℕ) → before ≤ l.row → IsRisen (length p.keys) (frame_extent p before) s)
          → IsRisen (length p.keys) l.held s;
      folds : l.folds.items ≡ l.fn.folds.items ++ map (λ row. rows_fold (g.F.Fold.neutral f) (g.F.Fold.joined f)
          (g.F.Fold.part_at f) (frame_rows p row)) (places l.row);
      parts : All (g.F.Fold.is_part f) (map (λ row. rows_fold (g.F.Fold.neutral f) (g.F.Fold.joined f) (g.F.Fold.part_at f)
          (frame_rows p row)) (places l.row));
      not_less : g.F.Fold.count l.fn.meter ≤ g.F.Fold.count l.meter;
      joins : g.F.Fold.count l.meter + owed l.queue ≤ g.F.Fold.count l.fn.meter + 2 * l.held.to + l.row;
    }
