use Rattle.std.proofs.Common.{◌≤◌, ◌++◌, arith, map, ap, ◌∙◌}
use Rattle.std.specs.Prelude.{slice_range}
use Rattle.std.specs.List.{flat_map}
use Rattle.wvalues.specs.Meaning.{meaning}
use Rattle.wrows.specs.Extended.{picked_of}
use Rattle.wrows.proofs.PickFacts.{flat_more}
use Rattle.wrows.proofs.copied.push_rows.Goals as goal

pub loop-done-preserved : goal.loop-done-preserved
loop-done-preserved c =
    let numbers = c.args.numbers.now in
    let f = picked_of c.args.places.now c.args.extended.now in
    let done = c.loop-done.done in
    let end = c.batch_end-end.result in
    let rising : done ≤ end = omega (arith, c.batch_end-end.ensures.some) in (
      c.batch_end-end.ensures.within,
      c.in_ok-push_batch.ensures
          ∙ ap (λ l. l ++ flat_map f (slice_range numbers done end)) c.loop-done.invariant.1
          ∙ flat_more f (map meaning c.args.cells.now.items) done end numbers rising,
    )
