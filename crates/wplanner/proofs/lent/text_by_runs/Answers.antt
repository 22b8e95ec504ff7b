use Rattle.std.proofs.Common.{map, sym, subst}
use Rattle.wplan.specs.Plans.{key_plan}
use Rattle.wtable.specs.TableOrders.{AreTableOrders}
use Rattle.wtable.proofs.LiveFacts.{live_same}
use Rattle.wplanner.proofs.lent.text_by_runs.Goals as goal

pub presorted_text-requires-clause-orders : goal.presorted_text-requires-clause-orders
presorted_text-requires-clause-orders c =
    subst (λ segments. AreTableOrders segments (map key_plan c.args.placed.now.select.now.keys.items) c.in_ok-orders.orders)
    (sym (live_same c.args.set.now c.table_orders.new.set c.in_ok-orders.ensures.same)) c.in_ok-orders.ensures.orders
