use Rattle.std.proofs.Common.{◌≡◌, ℕ, ◌++◌, ◌+◌, ◌-◌, ◌<◌, ◌≤◌}
use Rattle.std.specs.Prelude.{All, slice_range}
use Rattle.wframe.specs.Places.{span_at}
use Rattle.wslide.specs.Frames.{folds_of_spans, most_by_queues}
use Rattle.wslide.specs.Queue.{HasRoom}
use Rattle.wslide.proofs.Windows.{rows_up_to}
use Rattle.wslide.proofs.window.push_window_folds.Given as goal

abbrev pub invariant-loop-number : goal.invariant-loop-number
invariant-loop-number g l =
    let f = l.fold in
    let all = l.partitions in
    let from = l.fn.numbers.from in
    let made = folds_of_spans (g.F.Fold.neutral f) (g.F.Fold.joined f) (g.F.Fold.part_at f) all (span_at all.spans from).from
    (slice_range all.spans from l.number) in
    record {
      ordered : from ≤ l.number;
      folds : l.folds.items ≡ l.fn.folds.items ++ made;
      parts : All (g.F.Fold.is_part f) made;
      room : (k : ℕ) → from ≤ k → k < l.fn.numbers.to → HasRoom ((span_at all.spans k).to - (span_at all.spans k).from) l.queues;
      not_less : g.F.Fold.count l.fn.meter ≤ g.F.Fold.count l.meter;
      joins : g.F.Fold.count l.meter ≤ g.F.Fold.count l.fn.meter
          + most_by_queues all.frame.exclusion (rows_up_to all.spans from l.number);
    }
