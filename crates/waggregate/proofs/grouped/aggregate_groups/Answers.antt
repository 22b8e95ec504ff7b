use Rattle.std.proofs.Common.{refl, map, sym, ap, ◌∙◌}
use Rattle.wframe.specs.Cells.{meanings}
use Rattle.waggregate.specs.Aggregating.{aggregate_of}
use Rattle.waggregate.specs.Feeding.{fed_by}
use Rattle.waggregate.specs.Grouped.{rows_of_group}
use Rattle.waggregate.proofs.GroupFacts.{given_alike}
use Rattle.waggregate.proofs.grouped.aggregate_groups.Goals as goal

pub returns-in-CountRows-clause-gives : goal.returns-in-CountRows-clause-gives
returns-in-CountRows-clause-gives c =
    let feed = fed_by c.args.argument c.args.filter.now in
    given_alike c.count_groups.result _ _
    (ap (λ f. map (λ g. aggregate_of f feed (rows_of_group c.args.groups.now g)) c.args.order.now) (sym c.in-CountRows.is))
    (c.count_groups.ensures.gives feed c.lent.ensures.value)

pub returns-clause-gives : goal.returns-clause-gives
returns-clause-gives c =
    c.aggregate_values.ensures.gives (fed_by c.args.argument c.args.filter.now)
    (ap meanings c.deref.ensures.value ∙ c.in_ok-values.ensures.value) refl
