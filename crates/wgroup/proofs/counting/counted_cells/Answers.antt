use Rattle.std.proofs.Common.{map, pos, ◌++◌, ◌∷◌, [], sym, ap, ◌∙◌}
use Rattle.std.proofs.lemmas.List.{map-append}
use Rattle.wvalues.specs.Meaning.{Int, meaning}
use Rattle.wgroup.proofs.CountFacts.{same_taken}
use Rattle.wgroup.proofs.counting.counted_cells.Goals as goal

pub loop-preserved : goal.loop-preserved
loop-preserved c =
    let cells = c.loop.cells.items in
    let count = Int (pos c.args.count) in
    ap (map meaning) c.in_ok-push.ensures.items ∙ map-append meaning cells (_ ∷ []) ∙ ap (λ m. map meaning cells ++ m ∷ [])
    c.count_value.ensures
    ∙ ap (λ l. l ++ count ∷ []) c.loop.invariant ∙ sym (same_taken count c.args.calls.now c.loop.index c.loop-test.true)
