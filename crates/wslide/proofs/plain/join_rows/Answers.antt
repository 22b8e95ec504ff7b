use Rattle.std.proofs.Common.{◌-◌, sym, ap, ◌∙◌, arith}
use Rattle.std.proofs.lemmas.List.Sums.{fold_push}
use Rattle.wslide.specs.Laws.{total}
use Rattle.wslide.specs.Rows.{parts_from}
use Rattle.wslide.proofs.Spans.{parts_from-push}
use Rattle.wslide.proofs.plain.join_rows.Goals as goal

pub loop-row-preserved : goal.loop-row-preserved
loop-row-preserved g c =
    let f = c.args.fold.now in
    let at = g.F.Fold.part_at f in
    let joined = g.F.Fold.joined f in
    let from = c.args.span.from in
    let row = c.loop-row.row in
    let walked = parts_from at from (row - from) in
    record {
      sum =
          c.join-sum.ensures.value
          ∙ ap (λ sum. joined sum c.of.result) c.loop-row.invariant.sum
          ∙ ap (joined (total c.args.start joined walked)) c.of.ensures.value
          ∙ sym (ap (total c.args.start joined) (parts_from-push at from row (omega arith)) ∙ fold_push joined c.args.start
          walked (at row));
      part = c.join-sum.ensures.part;
      joins = omega arith;
    }
