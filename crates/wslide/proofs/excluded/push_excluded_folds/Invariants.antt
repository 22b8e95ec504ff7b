use Rattle.std.proofs.Common.{◌≡◌, ℕ, ◌++◌, ◌+◌, ◌*◌, ◌<◌, ◌≤◌, map, length}
use Rattle.std.specs.Prelude.{All}
use Rattle.wframe.specs.Places.{places, IsRisen}
use Rattle.wframe.specs.Frame.{frame_rows}
use Rattle.wframe.specs.Gaps.{before_span, behind_span}
use Rattle.wslide.specs.Laws.{rows_fold}
use Rattle.wslide.specs.Queue.{capacity, owed, IsFilledBy}
use Rattle.wslide.specs.Rows.{span_parts}
use Rattle.wslide.proofs.excluded.push_excluded_folds.Given as goal

abbrev pub invariant-loop-row : goal.invariant-loop-row
invariant-loop-row g l =
    let f = l.fold in
    let p = l.frames in
    record {
      before_filled : IsFilledBy (g.F.Fold.is_part f) (g.F.Fold.neutral f) (g.F.Fold.joined f)
          (span_parts (g.F.Fold.part_at f) l.held.before) l.before;
      before_capacity : capacity l.before ≡ capacity l.fn.before;
      before_ordered : l.held.before.from ≤ l.held.before.to;
      before_within : l.held.before.to ≤ l.rows;
      before_rises : (k : ℕ) → l.row ≤ k → k < length p.keys → IsRisen (length p.keys) l.held.before (before_span p k);
      behind_filled : IsFilledBy (g.F.Fold.is_part f) (g.F.Fold.neutral f) (g.F.Fold.joined f)
          (span_parts (g.F.Fold.part_at f) l.held.behind) l.behind;
      behind_capacity : capacity l.behind ≡ capacity l.fn.behind;
      behind_ordered : l.held.behind.from ≤ l.held.behind.to;
      behind_within : l.held.behind.to ≤ l.rows;
      behind_rises : (k : ℕ) → l.row ≤ k → k < length p.keys → IsRisen (length p.keys) l.held.behind (behind_span p k);
      folds : l.folds.items ≡ l.fn.folds.items ++ map (λ row. rows_fold (g.F.Fold.neutral f) (g.F.Fold.joined f)
          (g.F.Fold.part_at f) (frame_rows p row)) (places l.row);
      parts : All (g.F.Fold.is_part f) (map (λ row. rows_fold (g.F.Fold.neutral f) (g.F.Fold.joined f) (g.F.Fold.part_at f)
          (frame_rows p row)) (places l.row));
      not_less : g.F.Fold.count l.fn.meter ≤ g.F.Fold.count l.meter;
      joins : g.F.Fold.count l.meter + owed l.before + owed l.behind ≤ g.F.Fold.count l.fn.meter + 2 * l.held.before.to
          + 2 * l.held.behind.to + 4 * l.row;
    }
