use Rattle.std.proofs.Common.{◌+◌, take, get_or, sym, ap, ◌∙◌, arith}
use Rattle.std.proofs.lemmas.List.{take_more}
use Rattle.std.proofs.lemmas.List.Sums.{fold-append}
use Rattle.wframe.specs.declared.frame.Span.{Span}
use Rattle.wslide.specs.Laws.{total}
use Rattle.wslide.specs.Rows.{span_parts, spans_parts}
use Rattle.wslide.proofs.Spans.{apart_each, apart_few, spans_parts-push, spans_places-take, length-spans_more}
use Rattle.wslide.proofs.plain.rows_of_spans.Goals as goal

abbrev none : Span
none = record { from = 0; to = 0 }

pub join_rows-sum-requires-clause-ordered : goal.join_rows-sum-requires-clause-ordered
join_rows-sum-requires-clause-ordered g c =
    (apart_each 0 (g.F.Fold.rows c.args.fold.now) c.args.spans.now c.requires.apart c.loop-span.span-index none
    c.loop-span-test.true).ordered

pub join_rows-sum-requires-clause-within : goal.join_rows-sum-requires-clause-within
join_rows-sum-requires-clause-within g c =
    (apart_each 0 (g.F.Fold.rows c.args.fold.now) c.args.spans.now c.requires.apart c.loop-span.span-index none c.loop-span-test.true).to

pub join_rows-sum-requires-clause-room : goal.join_rows-sum-requires-clause-room
join_rows-sum-requires-clause-room g c =
    let spans = c.args.spans.now in
    let i = c.loop-span.span-index in
    let more = length-spans_more spans i none c.loop-span-test.true in
    let few = spans_places-take (i + 1) spans in
    let all = apart_few 0 (g.F.Fold.rows c.args.fold.now) spans c.requires.apart in
    omega arith

pub loop-span-preserved : goal.loop-span-preserved
loop-span-preserved g c =
    let f = c.args.fold.now in
    let at = g.F.Fold.part_at f in
    let neutral = g.F.Fold.neutral f in
    let joined = g.F.Fold.joined f in
    let spans = c.args.spans.now in
    let i = c.loop-span.span-index in
    let span = get_or spans i none in
    let more = length-spans_more spans i none c.loop-span-test.true in
    record {
      sum =
          c.join_rows-sum.ensures.value
          ∙ ap (λ sum. total sum joined (span_parts at span)) c.loop-span.invariant.sum
          ∙ sym (ap (λ ss. total neutral joined (spans_parts at ss)) (take_more spans i none c.loop-span-test.true)
          ∙ ap (total neutral joined) (spans_parts-push at (take i spans) span)
          ∙ fold-append joined neutral (spans_parts at (take i spans)) (span_parts at span));
      part = c.join_rows-sum.ensures.part;
      joins = omega arith;
    }
