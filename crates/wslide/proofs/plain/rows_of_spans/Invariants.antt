use Rattle.std.proofs.Common.{◌≡◌, ◌+◌, take, length}
use Rattle.wframe.specs.Places.{spans_places}
use Rattle.wslide.specs.Laws.{total}
use Rattle.wslide.specs.Rows.{spans_parts}
use Rattle.wslide.proofs.plain.rows_of_spans.Given as goal

abbrev pub invariant-loop-span : goal.invariant-loop-span
invariant-loop-span g l =
    let f = l.fold in
    let walked = take l.span-index l.spans in
    record {
      sum : l.sum ≡ total (g.F.Fold.neutral f) (g.F.Fold.joined f) (spans_parts (g.F.Fold.part_at f) walked);
      part : g.F.Fold.is_part f l.sum;
      joins : g.F.Fold.count l.meter ≡ g.F.Fold.count l.fn.meter + length (spans_places walked);
    }
