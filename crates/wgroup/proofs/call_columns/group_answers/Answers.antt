use Rattle.std.proofs.Common.{ℕ, Bool, List, Vec, Global, Option, None, All, ◌<◌, map, option_map, subst, sym, ap, ◌∙◌}
use Rattle.wvalues.specs.declared.value.Value.{Value}
use Rattle.wvalues.specs.Meaning.{Meaning, meaning}
use Rattle.wrows.specs.Columns.{in_range}
use Rattle.wrows.specs.Outcomes.{Gives}
use Rattle.waggregate.specs.Aggregating.{aggregate_of}
use Rattle.waggregate.specs.Feeding.{values_of}
use Rattle.waggregate.specs.Grouped.{rows_of_group}
use Rattle.waggregate.specs.Summaries.{AreSummaries, group_count}
use Rattle.wgroup.specs.Held.{row_numbers}
use Rattle.wgroup.proofs.call_columns.group_answers.Goals as goal

pub answers-requires-clause-ordered : goal.answers-requires-clause-ordered
answers-requires-clause-ordered c =
    let g = c.args.groups.now in
    let s = c.in-Some.known.now in
    let f = c.in-Some.ensures.found in
    let are : AreSummaries (values_of c.args.fed.now.argument) (row_numbers g) g.count s = c.requires.known None f.within s (f.is None) in
    subst (All (λ k. k < group_count s)) (sym c.deref.ensures.value)
    (subst (λ n. All (λ k. k < n) g.order.items) (sym are.long) g.below)

pub returns-in-Some-clause-gives : goal.returns-in-Some-clause-gives
returns-in-Some-clause-gives c =
    let view : Vec Value Global → List Meaning = λ column. map meaning column.items in
    let g = c.args.groups.now in
    let s = c.in-Some.known.now in
    let f = c.in-Some.ensures.found in
    let values = values_of c.args.fed.now.argument in
    let are : AreSummaries values (row_numbers g) g.count s = c.requires.known None f.within s (f.is None) in
    let answers_by : Option (List Bool) → List ℕ → List (Option Meaning) =
    λ tests order. map (λ i. aggregate_of c.args.fed.now.function (record { values = values; filter = tests })
    (rows_of_group (row_numbers g) i)) order in
    subst (λ l. Gives view c.answers.result (in_range l))
    (ap (answers_by None) c.deref.ensures.value
    ∙ ap (λ (filter : Option (Vec Bool Global)). answers_by (option_map (λ tests. tests.items) filter) g.order.items) (sym f.unfiltered))
    (c.answers.ensures.gives values (row_numbers g) g.count are)
