use Rattle.std.proofs.Common.{◌≡◌, drop}
use Rattle.std.specs.List.{list_any}
use Rattle.wtable.specs.TableOrders.{shares}
use Rattle.wtable.proofs.orders.is_served.Given as goal

-- none of those before it
abbrev pub invariant-loop-order : goal.invariant-loop-order
invariant-loop-order l = list_any (shares l.window) l.orders ≡ list_any (shares l.window) (drop l.order-index l.orders)
