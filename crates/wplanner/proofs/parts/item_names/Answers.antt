use Rattle.std.proofs.Common.{◌++◌, ◌∷◌, [], map, sym, ap, ◌∙◌}
use Rattle.std.specs.Rc.{rc_str_bytes}
use Rattle.std.proofs.lemmas.List.{length-map, map-append}
use Rattle.wplan.specs.Plans.{output_plan}
use Rattle.wcalls.proofs.Listed.{listed_more, listed_all, listed_long}
use Rattle.wplanner.proofs.parts.item_names.Goals as goal

pub loop-item-preserved : goal.loop-item-preserved
loop-item-preserved c =
    listed_more output_plan (λ o. o.name) c.args.items.now c.loop-item.item-index c.item-item.result _ _
    c.loop-item-test.true c.item-item.is c.loop-item.invariant (ap (map rc_str_bytes) c.in_ok-push.ensures.items
    ∙ map-append rc_str_bytes c.loop-item.names.items (_ ∷ [])
    ∙ ap (λ x. map rc_str_bytes c.loop-item.names.items ++ x ∷ []) c.in_ok-clone.ensures.cases)

pub returns-clause-names : goal.returns-clause-names
returns-clause-names c = listed_all output_plan (λ o. o.name) c.args.items.now c.loop-item.item-index _
    c.loop-item-test.false c.loop-item.invariant

pub returns-clause-len : goal.returns-clause-len
returns-clause-len c = sym (length-map c.loop-item.names.items rc_str_bytes) ∙ listed_long output_plan (λ o. o.name)
    c.args.items.now _ (returns-clause-names c)
