use Rattle.std.proofs.Common.{refl, subst}
use Rattle.wslide.specs.Aggregates.{picked_values, tests}
use Rattle.waggregate.specs.Batches.{batch_spans, batch_start}
use Rattle.waggregate.specs.FrameAnswers.{Puts}
use Rattle.waggregate.proofs.BatchFacts.{batch_inside}
use Rattle.waggregate.proofs.PickedFacts.{row_counts_alike}
use Rattle.waggregate.proofs.folding.put_counts.Goals as goal

pub returns-clause-answers : goal.returns-clause-answers
returns-clause-answers c = λ feed tested.
    let b = c.args.batch.now in
    subst (λ results. Puts results b.rows.now c.put_folds.result c.args.column.now c.put_folds.new.column)
    (row_counts_alike b.partitions.now (batch_start b) (batch_spans b) feed b.rows.now (batch_inside b c.requires.tiles)
    c.requires.few c.frames_are_rows.ensures.below c.frames_are_rows.ensures.few (picked_values feed.values b.rows.now)
    (tests c.args.filter) refl tested c.counts_are_exact.ensures.rows c.picked_rows_feed_alike.ensures.rows)
    c.put_folds.ensures.answers
