use Rattle.std.proofs.Common.{◌≤◌, ◌<◌, ◌++◌, arith, ap, ◌∙◌}
use Rattle.std.specs.Prelude.{slice_range}
use Rattle.wslide.specs.Aggregates.{picked_values}
use Rattle.waggregate.specs.Feeding.{rows_of, values_of}
use Rattle.waggregate.proofs.CopyFacts.{all_among, copied_more}
use Rattle.waggregate.proofs.picking.copied_values.Goals as goal

pub push_batch-requires : goal.push_batch-requires
push_batch-requires c = all_among (λ i. i < rows_of c.args.argument) c.loop-done.done c.batch_end-end.result c.args.rows.now c.requires

pub loop-done-preserved : goal.loop-done-preserved
loop-done-preserved c =
    let rows = c.args.rows.now in
    let values = values_of c.args.argument in
    let done = c.loop-done.done in
    let end = c.batch_end-end.result in
    let rising : done ≤ end = omega (arith, c.batch_end-end.ensures.some) in (
      c.batch_end-end.ensures.within,
      c.in_ok-push_batch.ensures
          ∙ ap (λ l. l ++ picked_values values (slice_range rows done end)) c.loop-done.invariant.1
          ∙ copied_more values done end rows rising,
    )
