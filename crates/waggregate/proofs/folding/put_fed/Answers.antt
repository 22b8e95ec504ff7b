use Rattle.std.proofs.Common.{Some, subst, sym, ap, ◌∙◌}
use Rattle.wframe.specs.Cells.{meanings}
use Rattle.wframe.specs.Sorting.{sorted}
use Rattle.wslide.specs.Aggregates.{by_value_in, tests}
use Rattle.wslide.specs.Lawful.{by_value_in_total}
use Rattle.wplan.specs.declared.resolved.AggregateFunction.TheVariants.{Min, Max}
use Rattle.waggregate.specs.Aggregating.{fed_values, first_or_null}
use Rattle.waggregate.specs.Batches.{batch_spans, batch_start}
use Rattle.waggregate.specs.FrameAnswers.{Puts, batch_answers}
use Rattle.waggregate.proofs.BatchFacts.{batch_inside}
use Rattle.waggregate.proofs.FrameFacts.{LeastLaw}
use Rattle.waggregate.proofs.PickedFacts.{value_counts_alike, sums_alike, firsts_alike}
use Rattle.waggregate.proofs.folding.put_fed.Goals as goal

pub returns-in-CountRows-clause-answers : goal.returns-in-CountRows-clause-answers
returns-in-CountRows-clause-answers c feed of =
    let b = c.args.batch.now in
    subst (λ results. Puts results b.rows.now c.put_counts.result c.args.column.now c.put_counts.new.column)
    (ap (λ f. batch_answers f feed b.partitions.now (batch_start b) (batch_spans b) b.rows.now) (sym c.in-CountRows.is))
    (c.put_counts.ensures.answers feed (c.lent-filter.ensures.value ∙ of.tested))

pub returns-in-Count-clause-answers : goal.returns-in-Count-clause-answers
returns-in-Count-clause-answers c feed of =
    let b = c.args.batch.now in
    let all = b.partitions.now in
    subst (λ results. Puts results b.rows.now c.put_folds.result c.args.column.now c.put_folds.new.column)
    (value_counts_alike all (batch_start b) (batch_spans b) feed b.rows.now (batch_inside b c.requires.tiles) c.requires.few
    c.frames_are_rows.ensures.below c.frames_are_rows.ensures.few (meanings c.args.values.now) (tests c.lent-filter.result)
    of.picked (c.lent-filter.ensures.value ∙ of.tested)
    c.counts_are_exact.ensures.values c.picked_rows_feed_alike.ensures.count
    ∙ ap (λ f. batch_answers f feed all (batch_start b) (batch_spans b) b.rows.now) (sym c.in-Count.is))
    c.put_folds.ensures.answers

pub returns-in-Sum-clause-answers : goal.returns-in-Sum-clause-answers
returns-in-Sum-clause-answers c feed of =
    let b = c.args.batch.now in
    let all = b.partitions.now in
    subst (λ results. Puts results b.rows.now c.put_folds-in-Sum.result c.args.column.now c.put_folds-in-Sum.new.column)
    (sums_alike all (batch_start b) (batch_spans b) feed b.rows.now (batch_inside b c.requires.tiles) c.requires.few
    c.frames_are_rows.ensures.below c.frames_are_rows.ensures.few (meanings c.args.values.now) (tests c.lent-filter.result)
    of.picked (c.lent-filter.ensures.value ∙ of.tested)
    c.sums_are_exact.ensures c.picked_rows_feed_alike.ensures.feed c.picked_rows_feed_alike.ensures.sum
    (c.see_ranges.ensures.fed (tests c.lent-filter.result))
    ∙ ap (λ f. batch_answers f feed all (batch_start b) (batch_spans b) b.rows.now) (sym c.in-Sum.is))
    c.put_folds-in-Sum.ensures.answers

pub returns-in-Min-clause-answers : goal.returns-in-Min-clause-answers
returns-in-Min-clause-answers c feed of =
    let b = c.args.batch.now in
    let all = b.partitions.now in
    let fold = c.extreme-fold.result in
    let is = c.extreme-fold.ensures in
    subst (λ results. Puts results b.rows.now c.put_folds-in-Min.result c.args.column.now c.put_folds-in-Min.new.column)
    (firsts_alike all (batch_start b) (batch_spans b) feed b.rows.now (batch_inside b c.requires.tiles) c.requires.few
    c.frames_are_rows.ensures.below c.frames_are_rows.ensures.few (meanings fold.values.now) (tests fold.filter)
    (ap meanings is.values ∙ of.picked) (is.filter ∙ c.lent-filter.ensures.value ∙ of.tested)
    c.picked_rows_feed_alike.ensures.feed c.stable_sorts_agree.ensures.first (by_value_in fold.greatest)
    (by_value_in_total fold.greatest) (subst (λ d. LeastLaw (by_value_in d)) (sym is.greatest) c.places_are_least.ensures.least)
    Min (λ rs. ap (λ d. Some (first_or_null (sorted (by_value_in d) (fed_values feed rs)))) is.greatest)
    ∙ ap (λ f. batch_answers f feed all (batch_start b) (batch_spans b) b.rows.now) (sym c.in-Min.is))
    c.put_folds-in-Min.ensures.answers

pub returns-in-Max-clause-answers : goal.returns-in-Max-clause-answers
returns-in-Max-clause-answers c feed of =
    let b = c.args.batch.now in
    let all = b.partitions.now in
    let fold = c.extreme-fold-in-Max.result in
    let is = c.extreme-fold-in-Max.ensures in
    subst (λ results. Puts results b.rows.now c.put_folds-in-Max.result c.args.column.now c.put_folds-in-Max.new.column)
    (firsts_alike all (batch_start b) (batch_spans b) feed b.rows.now (batch_inside b c.requires.tiles) c.requires.few
    c.frames_are_rows.ensures.below c.frames_are_rows.ensures.few (meanings fold.values.now) (tests fold.filter)
    (ap meanings is.values ∙ of.picked) (is.filter ∙ c.lent-filter.ensures.value ∙ of.tested)
    c.picked_rows_feed_alike.ensures.feed c.stable_sorts_agree.ensures.first (by_value_in fold.greatest)
    (by_value_in_total fold.greatest) (subst (λ d. LeastLaw (by_value_in d)) (sym is.greatest) c.places_are_least.ensures.greatest)
    Max (λ rs. ap (λ d. Some (first_or_null (sorted (by_value_in d) (fed_values feed rs)))) is.greatest)
    ∙ ap (λ f. batch_answers f feed all (batch_start b) (batch_spans b) b.rows.now) (sym c.in-Max.is))
    c.put_folds-in-Max.ensures.answers
