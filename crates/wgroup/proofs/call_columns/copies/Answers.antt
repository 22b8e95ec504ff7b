use Rattle.std.proofs.Common.{length, map, ◌++◌, ◌∷◌, [], ap, ◌∙◌, arith, length-append}
use Rattle.std.proofs.lemmas.List.{map-append}
use Rattle.wvalues.specs.Meaning.{meaning}
use Rattle.wgroup.proofs.SetFacts.{same_next}
use Rattle.wgroup.proofs.call_columns.copies.Goals as goal

pub loop-preserved : goal.loop-preserved
loop-preserved c =
    let column = c.loop.column.items in
    record {
      value = same_next (meaning c.args.value.now) c.args.order.now c.loop.index 0 (map meaning column) _ c.loop-test.true
          c.loop.invariant.value
          (ap (map meaning) c.in_ok-push.ensures.items ∙ map-append meaning column (_ ∷ [])
          ∙ ap (λ m. map meaning column ++ m ∷ []) c.in_ok-duplicate.ensures);
      len = omega (
        arith,
        ap length c.in_ok-push.ensures.items,
        length-append column (c.in_ok-duplicate.field-0 ∷ []),
        c.loop.invariant.len,
      );
    }
