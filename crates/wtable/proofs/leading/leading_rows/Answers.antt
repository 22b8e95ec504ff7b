use Rattle.std.proofs.Common.{◌-◌, arith, length, map, refl, subst, sym, ◌∙◌}
use Rattle.std.specs.Prelude.{IfSome}
use Rattle.std.proofs.lemmas.List.{length-map}
use Rattle.wplan.specs.Plans.{key_plan, select_plan, window_plan}
use Rattle.wtable.specs.TableOrders.{AreColumns}
use Rattle.wtable.specs.Tables.{rows_of_set}
use Rattle.wtable.proofs.LeadingFacts.{answers, cut_alike}
use Rattle.wtable.proofs.leading.leading_rows.Goals as goal

pub returns-clause-answer : goal.returns-clause-answer
returns-clause-answer c =
    let plan = select_plan c.args.select.now in
    let keys = c.deref-2.result.now in
    let w = length c.columns-width.result.now in
    let only = c.if-not-only_orders.ensures in
    let are : AreColumns w (map (λ k. k.value) plan.keys) (map (λ k. k.order) plan.keys) keys =
    subst (AreColumns w (map (λ k. k.value) plan.keys) (map (λ k. k.order) plan.keys)) (sym c.deref-2.ensures.value)
    (subst (λ l. AreColumns w (map (λ k. k.value) (map key_plan l)) (map (λ k. k.order) (map key_plan l)) c.in-Some-columns.keys.items)
    c.deref.ensures.value
    (subst (λ found. IfSome found (λ ks. AreColumns w (map (λ k. k.value) (map key_plan c.deref.result.now))
    (map (λ k. k.order) (map key_plan c.deref.result.now)) ks.items)) c.in-Some-columns.is c.in_ok-columns.ensures.keys)) in
    answers w plan keys c.in-Some.most (only.condition refl) (only.grouping refl)
    (length-map c.args.select.now.windows.items window_plan ∙ only.windows refl) (only.items refl) are
    (cut_alike c.args.select.now.offset c.args.select.now.limit (c.in-Some.most - c.args.select.now.offset) c.in-Some.most
    c.in-Some.ensures.limit (omega (arith, c.in-Some.ensures.offset))) (rows_of_set c.args.set.now) c.in_ok-found.found c.in_ok-found.ensures.leads c.in_ok-found.ensures.few

pub returns-in_default-clause-given : goal.returns-in_default-clause-given
returns-in_default-clause-given c = λ asks. absurd (c.in_default.ensures.none (length c.args.set.now.schema.columns) asks)
