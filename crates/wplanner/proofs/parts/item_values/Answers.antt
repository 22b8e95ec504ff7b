use Rattle.std.proofs.Common.{◌∷◌, [], sym, ap, ◌∙◌}
use Rattle.wrows.specs.Laid.{formula_seen, formulas_seen}
use Rattle.std.proofs.lemmas.List.{length-map, map-append}
use Rattle.wplan.specs.Plans.{output_plan}
use Rattle.wcalls.proofs.Listed.{listed_more, listed_all, listed_long}
use Rattle.wplanner.proofs.parts.item_values.Goals as goal

pub loop-item-preserved : goal.loop-item-preserved
loop-item-preserved c =
    listed_more output_plan (λ o. o.value) c.args.items.now c.loop-item.item-index c.item-item.result _ _
    c.loop-item-test.true c.item-item.is c.loop-item.invariant (ap formulas_seen c.in_ok-push.ensures.items
    ∙ map-append formula_seen c.loop-item.values.items (_ ∷ []))

pub returns-clause-values : goal.returns-clause-values
returns-clause-values c = listed_all output_plan (λ o. o.value) c.args.items.now c.loop-item.item-index _
    c.loop-item-test.false c.loop-item.invariant

pub returns-clause-len : goal.returns-clause-len
returns-clause-len c = sym (length-map c.loop-item.values.items formula_seen) ∙ listed_long output_plan (λ o. o.value)
    c.args.items.now _ (returns-clause-values c)
