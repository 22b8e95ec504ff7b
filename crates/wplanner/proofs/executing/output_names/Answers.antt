use Rattle.std.proofs.Common.{◌≡◌, ◌-◌, suc, length, map, sym, ap, ◌∙◌, arith}
use Rattle.wplan.specs.Plans.{output_plan, select_plan}
use Rattle.wplanner.proofs.PlanFacts.{names_at_last}
use Rattle.wplanner.proofs.executing.output_names.Goals as goal

pub returns : goal.returns
returns c =
    let ss = c.args.selects.now in
    let s = c.index-selects-selects.result in
    let n = length ss - 1 in
    let long : length ss ≡ suc n = omega (arith, c.requires) in
    c.in_ok-names.ensures.names
    ∙ ap (λ xs. map (λ o. o.name) (map output_plan xs)) c.deref.ensures.value
    ∙ sym (names_at_last ss n s long ∙ ap (λ x. map (λ o. o.name) (select_plan x).items) (sym c.index-selects-selects.is))
