use Rattle.std.proofs.Common.{◌≡◌, ◌<◌, ℕ, List, Vec, Global, Option, None, All, length, map, get_or, sym, subst, ap, ◌∙◌, arith}
use Rattle.std.proofs.lemmas.List.{length-map}
use Rattle.wvalues.specs.declared.value.Value.{Value}
use Rattle.wvalues.specs.Meaning.{Meaning, meaning}
use Rattle.wrows.specs.Columns.{in_range}
use Rattle.wrows.specs.Outcomes.{Gives}
use Rattle.waggregate.specs.Aggregating.{Feed, aggregate_of}
use Rattle.waggregate.specs.Grouped.{rows_of_group}
use Rattle.wplan.specs.declared.resolved.AggregateFunction.{AggregateFunction}
use Rattle.wgroup.specs.Finer.{function_of_parts}
use Rattle.wgroup.proofs.MadeFacts.{linked_below, order_long, parts_answer}
use Rattle.wgroup.proofs.call_columns.answers_of_parts.Goals as goal

pub aggregate_groups-requires-clause-rows : goal.aggregate_groups-requires-clause-rows
aggregate_groups-requires-clause-rows c =
    let f = c.args.set.now in
    let links = c.args.finer.now.numbers.items in
    let numbers : c.deref-3.result.now ≡ map (λ i. get_or links i 0) f.order.items
    = c.deref-3.ensures.value ∙ c.in_ok-numbers.ensures ∙ ap (λ l. map (λ i. get_or l i 0) c.deref-2.result.now)
    c.deref.ensures.value ∙ ap (map (λ i. get_or links i 0)) c.deref-2.ensures.value in
    ap length numbers ∙ length-map f.order.items (λ i. get_or links i 0) ∙ sym c.requires.len

pub aggregate_groups-requires-clause-below : goal.aggregate_groups-requires-clause-below
aggregate_groups-requires-clause-below c =
    let f = c.args.set.now in
    let links = c.args.finer.now.numbers.items in
    let numbers : c.deref-3.result.now ≡ map (λ i. get_or links i 0) f.order.items
    = c.deref-3.ensures.value ∙ c.in_ok-numbers.ensures ∙ ap (λ l. map (λ i. get_or l i 0) c.deref-2.result.now)
    c.deref.ensures.value ∙ ap (map (λ i. get_or links i 0)) c.deref-2.ensures.value in
    subst (All (λ i. i < c.args.groups.now.count)) (sym numbers)
    (linked_below links f.order.items c.args.groups.now.count c.requires.made.below
    (subst (λ n. All (λ i. i < n) f.order.items) (sym c.requires.made.as_many) f.below))

pub aggregate_groups-requires-clause-few : goal.aggregate_groups-requires-clause-few
aggregate_groups-requires-clause-few c =
    let f = c.args.set.now in
    let links = c.args.finer.now.numbers.items in
    let numbers : c.deref-3.result.now ≡ map (λ i. get_or links i 0) f.order.items
    = c.deref-3.ensures.value ∙ c.in_ok-numbers.ensures ∙ ap (λ l. map (λ i. get_or l i 0) c.deref-2.result.now)
    c.deref.ensures.value ∙ ap (map (λ i. get_or links i 0)) c.deref-2.ensures.value in
    omega (
      arith,
      ap length numbers,
      length-map f.order.items (λ i. get_or links i 0),
      order_long f c.requires.made.base,
      c.requires.made.base.fewer,
      ap length c.requires.made.same_rows,
      c.requires.few,
    )

pub returns-clause-gives : goal.returns-clause-gives
returns-clause-gives c = λ feed known.
    let view : Vec Value Global → List Meaning = λ column. map meaning column.items in
    let f = c.args.set.now in
    let g = c.args.groups.now in
    let links = c.args.finer.now.numbers.items in
    let parts : List Meaning = map meaning c.args.parts.now in
    let fed : Feed = record { values = parts; filter = None } in
    let answers_by : AggregateFunction → List ℕ → List ℕ → List (Option Meaning) =
    λ function numbers order. map (λ i. aggregate_of function fed (rows_of_group numbers i)) order in
    let numbers : c.deref-3.result.now ≡ map (λ i. get_or links i 0) f.order.items
    = c.deref-3.ensures.value ∙ c.in_ok-numbers.ensures ∙ ap (λ l. map (λ i. get_or l i 0) c.deref-2.result.now)
    c.deref.ensures.value ∙ ap (map (λ i. get_or links i 0)) c.deref-2.ensures.value in
    subst (λ l. Gives view c.aggregate_groups.result (in_range l))
    (ap (λ function. answers_by function c.deref-3.result.now c.deref-4.result.now) c.function_of_parts-function.ensures
    ∙ ap (λ ns. answers_by (function_of_parts c.args.function) ns c.deref-4.result.now) numbers
    ∙ ap (answers_by (function_of_parts c.args.function) (map (λ i. get_or links i 0) f.order.items)) c.deref-4.ensures.value
    ∙ parts_answer c.args.function feed f g c.args.finer.now parts c.requires.made c.requires.finer c.requires.few known)
    c.aggregate_groups.ensures.gives
