use Rattle.std.proofs.Common.{List, get_or, sym, subst, ap, ◌∙◌}
use Rattle.wplan.specs.Plans.{window_plan}
use Rattle.wcalls.specs.PresortedRows.{IsPresorted}
use Rattle.wtable.specs.TableOrders.{ArePresortedOf}
use Rattle.wtable.specs.declared.presorted.PresortedOrder.{PresortedOrder}
use Rattle.wtable.proofs.presorted.take_presorted.Goals as goal

pub returns-clause-order : goal.returns-clause-order
returns-clause-order c = λ rows are.
    let taken = c.remove-taken.result in
    subst (λ (o : PresortedOrder). IsPresorted rows (window_plan c.args.window.now) o.presorted)
    (ap (λ (l : List PresortedOrder). get_or l c.in-Some.place taken) c.as_slice.ensures.value ∙ sym c.remove-taken.ensures.value)
    (c.in-Some.ensures.order rows (subst (ArePresortedOf rows) (sym c.as_slice.ensures.value) are) taken)
