use Rattle.std.proofs.Common.{◌≡◌, ◌+◌, ◌-◌, ◌*◌, ◌≤◌}
use Rattle.wslide.specs.Queue.{capacity, owed, IsFilledBy}
use Rattle.wslide.specs.Rows.{parts_from}
use Rattle.wslide.proofs.sliding.advance.Given as goal

abbrev pub invariant-loop-row : goal.invariant-loop-row
invariant-loop-row g l =
    let f = l.fold in
    record {
      filled : IsFilledBy (g.F.Fold.is_part f) (g.F.Fold.neutral f) (g.F.Fold.joined f)
          (parts_from (g.F.Fold.part_at f) l.held.from (l.row - l.held.from)) l.queue;
      capacity : capacity l.queue ≡ capacity l.fn.queue;
      not_less : g.F.Fold.count l.fn.meter ≤ g.F.Fold.count l.meter;
      joins : g.F.Fold.count l.meter + owed l.queue ≡ g.F.Fold.count l.fn.meter + owed l.fn.queue + 2 * (l.row - l.held.to);
    }

abbrev pub invariant-loop : goal.invariant-loop
invariant-loop g l =
    let f = l.fold in
    let span = l.fn.span in
    record {
      filled : IsFilledBy (g.F.Fold.is_part f) (g.F.Fold.neutral f) (g.F.Fold.joined f)
          (parts_from (g.F.Fold.part_at f) l.counter (span.to - l.counter)) l.queue;
      capacity : capacity l.queue ≡ capacity l.fn.queue;
      not_less : g.F.Fold.count l.fn.meter ≤ g.F.Fold.count l.meter;
      joins : g.F.Fold.count l.meter + owed l.queue ≤ g.F.Fold.count l.fn.meter + owed l.fn.queue + 2 * (span.to - l.fn.held.to);
    }
