use Rattle.std.proofs.Common.{Some, map, subst, sym, ap, ◌∙◌}
use Rattle.wframe.specs.Cells.{meanings}
use Rattle.wframe.specs.Sorting.{sorted}
use Rattle.wslide.specs.Aggregates.{by_value_in, tests}
use Rattle.wslide.specs.Lawful.{by_value_in_total}
use Rattle.waggregate.specs.Aggregating.{aggregate_of, fed_values, first_or_null}
use Rattle.waggregate.specs.Grouped.{rows_of_group}
use Rattle.waggregate.proofs.FrameFacts.{LeastLaw}
use Rattle.waggregate.proofs.GroupFacts.{given_alike, values_answered, sums_answered, firsts_answered}
use Rattle.waggregate.proofs.grouped.aggregate_values.Goals as goal

pub returns-in-CountRows-clause-gives : goal.returns-in-CountRows-clause-gives
returns-in-CountRows-clause-gives c = λ feed valued tested.
    let groups = c.args.groups.now in
    let order = c.args.order.now in
    given_alike c.count_groups.result _ _
    (ap (λ f. map (λ g. aggregate_of f feed (rows_of_group groups g)) order) (sym c.in-CountRows.is))
    (c.count_groups.ensures.gives feed (c.lent-filter.ensures.value ∙ tested))

pub returns-in-Count-clause-gives : goal.returns-in-Count-clause-gives
returns-in-Count-clause-gives c = λ feed valued tested.
    let groups = c.args.groups.now in
    let order = c.args.order.now in
    given_alike c.fold_groups.result _ _
    (values_answered groups order c.requires.few feed (meanings c.args.values.now) (tests c.lent-filter.result) valued
    (c.lent-filter.ensures.value ∙ tested) c.counts_are_exact.ensures.values
    ∙ ap (λ f. map (λ g. aggregate_of f feed (rows_of_group groups g)) order) (sym c.in-Count.is))
    c.fold_groups.ensures.gives

pub returns-in-Sum-clause-gives : goal.returns-in-Sum-clause-gives
returns-in-Sum-clause-gives c = λ feed valued tested.
    let groups = c.args.groups.now in
    let order = c.args.order.now in
    given_alike c.fold_groups-in-Sum.result _ _
    (sums_answered groups order c.requires.few feed (meanings c.args.values.now) (tests c.lent-filter.result) valued
    (c.lent-filter.ensures.value ∙ tested) c.sums_are_exact.ensures (c.see_ranges.ensures.fed (tests c.lent-filter.result))
    ∙ ap (λ f. map (λ g. aggregate_of f feed (rows_of_group groups g)) order) (sym c.in-Sum.is))
    c.fold_groups-in-Sum.ensures.gives

pub returns-in-Min-clause-gives : goal.returns-in-Min-clause-gives
returns-in-Min-clause-gives c = λ feed valued tested.
    let groups = c.args.groups.now in
    let order = c.args.order.now in
    let fold = c.extreme-fold.result in
    let is = c.extreme-fold.ensures in
    given_alike c.fold_groups-in-Min.result _ _
    (firsts_answered groups order c.requires.few feed (meanings fold.values.now) (tests fold.filter)
    (ap meanings is.values ∙ valued) (is.filter ∙ c.lent-filter.ensures.value ∙ tested)
    c.stable_sorts_agree.ensures.first (by_value_in fold.greatest) (by_value_in_total fold.greatest)
    (subst (λ d. LeastLaw (by_value_in d)) (sym is.greatest) c.places_are_least.ensures.least)
    ∙ ap (λ d. map (λ g. Some (first_or_null (sorted (by_value_in d) (fed_values feed (rows_of_group groups g))))) order) is.greatest
    ∙ ap (λ f. map (λ g. aggregate_of f feed (rows_of_group groups g)) order) (sym c.in-Min.is))
    c.fold_groups-in-Min.ensures.gives

pub returns-in-Max-clause-gives : goal.returns-in-Max-clause-gives
returns-in-Max-clause-gives c = λ feed valued tested.
    let groups = c.args.groups.now in
    let order = c.args.order.now in
    let fold = c.extreme-fold-in-Max.result in
    let is = c.extreme-fold-in-Max.ensures in
    given_alike c.fold_groups-in-Max.result _ _
    (firsts_answered groups order c.requires.few feed (meanings fold.values.now) (tests fold.filter)
    (ap meanings is.values ∙ valued) (is.filter ∙ c.lent-filter.ensures.value ∙ tested)
    c.stable_sorts_agree.ensures.first (by_value_in fold.greatest) (by_value_in_total fold.greatest)
    (subst (λ d. LeastLaw (by_value_in d)) (sym is.greatest) c.places_are_least.ensures.greatest)
    ∙ ap (λ d. map (λ g. Some (first_or_null (sorted (by_value_in d) (fed_values feed (rows_of_group groups g))))) order) is.greatest
    ∙ ap (λ f. map (λ g. aggregate_of f feed (rows_of_group groups g)) order) (sym c.in-Max.is))
    c.fold_groups-in-Max.ensures.gives
