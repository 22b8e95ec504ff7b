use Rattle.std.proofs.Common.{sym, ◌∙◌, subst}
use Rattle.wcalls.specs.Listed.{lists_in}
use Rattle.wcalls.specs.RowOrders.{IsRowOrder}
use Rattle.wcalls.proofs.window_order.ordered_keys.Goals as goal

pub kept_order-requires-clause-values : goal.kept_order-requires-clause-values
kept_order-requires-clause-values c = c.requires ∙ sym c.in_ok-order.ensures.order.len

pub kept_order-requires-clause-keys : goal.kept_order-requires-clause-keys
kept_order-requires-clause-keys c = sym c.in_ok-order.ensures.order.len

pub kept_order-requires-clause-order : goal.kept_order-requires-clause-order
kept_order-requires-clause-order c =
    let values = c.args.values in
    let keys = c.args.keys in
    let made = c.in_ok-order.ensures.order in
    subst (λ k. IsRowOrder values.orders.items (lists_in values.lists) keys.orders.items (lists_in keys.lists) k
    c.in_ok-order.order) (sym made.len) made
