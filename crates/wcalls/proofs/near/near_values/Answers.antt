use Rattle.std.proofs.Common.{Option, Some, None, Ok, length, map, slice_index_or, sym, ap, ◌∙◌}
use Rattle.std.proofs.lemmas.List.{length-map}
use Rattle.std.specs.Prelude.{IfSome}
use Rattle.wvalues.specs.Meaning.{Null, meaning}
use Rattle.wrows.specs.Columns.{column_of}
use Rattle.wrows.specs.Laid.{rows_seen}
use Rattle.wcalls.proofs.PlainFacts.{placed_column}
use Rattle.wcalls.proofs.near.near_values.Goals as goal

then : {X : Type 0} (P Q : X → Type 0) (found : Option X) → ((x : X) → P x → Q x) → IfSome found P → IfSome found Q
then P Q None f h = h
then P Q (Some x) f h = f x h

pub returns-clause-values : goal.returns-clause-values
returns-clause-values c = λ rows near. then _ _ c.near_column.result
    (λ values is. ap (λ t. column_of t (rows_seen rows)) c.in_ok-place_of.ensures.formula
    ∙ placed_column c.in_ok-place_of.field-0 rows ∙ ap Ok (sym is))
    (c.near_column.ensures rows near)

pub returns-clause-len : goal.returns-clause-len
returns-clause-len c = λ rows near. then _ _ c.near_column.result
    (λ values is. sym (length-map values.now.value.items meaning) ∙ ap length is
    ∙ length-map rows (λ row. slice_index_or (map meaning row.now) c.in_ok-place_of.field-0 Null))
    (c.near_column.ensures rows near)
