use Rattle.std.proofs.Common.{◌≡◌, ◌+◌, ◌-◌}
use Rattle.wslide.specs.Laws.{total}
use Rattle.wslide.specs.Rows.{parts_from}
use Rattle.wslide.proofs.plain.join_rows.Given as goal

abbrev pub invariant-loop-row : goal.invariant-loop-row
invariant-loop-row g l =
    let f = l.fold in
    let from = l.fn.span.from in
    record {
      sum : l.sum ≡ total l.fn.start (g.F.Fold.joined f) (parts_from (g.F.Fold.part_at f) from (l.row - from));
      part : g.F.Fold.is_part f l.sum;
      joins : g.F.Fold.count l.meter ≡ g.F.Fold.count l.fn.meter + (l.row - from);
    }
