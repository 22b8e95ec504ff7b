use Rattle.std.proofs.Common.{◌∷◌, [], ◌++◌, sym, ap, ◌∙◌, arith}
use Rattle.wrows.proofs.RowFacts.{places_more}
use Rattle.wplanner.proofs.table.column_places.Goals as goal

pub loop-column-preserved : goal.loop-column-preserved
loop-column-preserved c =
    c.in_ok-push.ensures.items ∙ ap (λ l. l ++ c.loop-column.column ∷ []) c.loop-column.invariant
    ∙ sym (places_more 0 c.loop-column.column c.loop-column.column (omega arith))
