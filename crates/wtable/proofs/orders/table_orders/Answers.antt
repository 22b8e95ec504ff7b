use Rattle.std.proofs.Common.{List, length, map, sym, subst, ◌∙◌}
use Rattle.std.specs.Prelude.{All, IfSome}
use Rattle.wvalues.specs.Meaning.{Meaning}
use Rattle.wplan.specs.Plans.{key_plan}
use Rattle.wtable.specs.TableOrders.{IsOrderFor, IsServed, by_keys}
use Rattle.wtable.proofs.LiveFacts.{live_same}
use Rattle.wtable.proofs.ServedFacts.{none_asked}
use Rattle.wtable.proofs.orders.table_orders.Goals as goal

pub returns-clause-orders : goal.returns-clause-orders
returns-clause-orders c =
    let plans = map key_plan c.args.select.now.keys.items in
    record {
      windows = c.in_ok-windows.ensures.orders;
      keys = subst (λ segments. IfSome c.in_ok-keys.keys (λ refs. (columns : List (List Meaning))
          → IsOrderFor segments (by_keys plans columns) refs.items)) (live_same c.args.set.now c.window_orders.new.set
          c.in_ok-windows.ensures.same) c.in_ok-keys.ensures.order;
    }

pub returns-clause-none : goal.returns-clause-none
returns-clause-none c = λ none empty. c.in_ok-keys.ensures.idle empty ∙ c.in_ok-windows.ensures.idle none

pub returns-clause-served : goal.returns-clause-served
returns-clause-served c = λ _.
    subst (All (IsServed (length c.args.set.now.schema.columns) c.in_ok-windows.windows.items)) c.deref.ensures.value
    c.in_ok-windows.ensures.served

pub returns-then-not-asks_for_orders-clause-served : goal.returns-then-not-asks_for_orders-clause-served
returns-then-not-asks_for_orders-clause-served c = λ ungrouped.
    none_asked (IsServed (length c.args.set.now.schema.columns) _) c.args.select.now (sym c.if-not-asks_for_orders.ensures) ungrouped
