use Rattle.std.proofs.Common.{ℕ, List, Vec, Global, Option, map, subst, sym, ap, ◌∙◌}
use Rattle.wvalues.specs.declared.value.Value.{Value}
use Rattle.wvalues.specs.Meaning.{Meaning, meaning}
use Rattle.wrows.specs.Columns.{in_range}
use Rattle.wrows.specs.Outcomes.{Gives}
use Rattle.waggregate.specs.Aggregating.{Feed, aggregate_of}
use Rattle.waggregate.specs.Feeding.{fed_by}
use Rattle.waggregate.specs.Grouped.{rows_of_group}
use Rattle.wgroup.specs.Held.{by_row, row_numbers}
use Rattle.wgroup.proofs.call_columns.made_answers.Goals as goal

pub returns-in-None-clause-gives : goal.returns-in-None-clause-gives
returns-in-None-clause-gives c =
    let view : Vec Value Global → List Meaning = λ column. map meaning column.items in
    let g = c.args.groups.now in
    let feed : Feed = fed_by c.args.fed.now.argument c.args.fed.now.filter in
    let answers_by : List ℕ → List ℕ → List (Option Meaning) =
    λ numbers order. map (λ i. aggregate_of c.args.fed.now.function feed (rows_of_group numbers i)) order in
    subst (λ l. Gives view c.aggregate_groups.result (in_range l))
    (ap (λ ns. answers_by ns c.deref-in-None-2.result.now) (c.deref-in-None.ensures.value ∙ ap (λ v. v.items) c.deref.ensures
    ∙ sym (ap (by_row g.numbers.value.items) c.in-None.is))
    ∙ ap (answers_by (row_numbers g)) c.deref-in-None-2.ensures.value)
    c.aggregate_groups.ensures.gives
