use Rattle.std.proofs.Common.{Ok, sym, ap, ◌∙◌}
use Rattle.wplan.specs.Plans.{window_plan}
use Rattle.wrows.specs.Laid.{rows_seen}
use Rattle.wcalls.specs.Listed.{lists_in}
use Rattle.wcalls.proofs.WindowedFacts.{both_long, order_made}
use Rattle.wcalls.proofs.window_order.WindowOrder.new.Goals as goal

pub ordered_keys-requires : goal.ordered_keys-requires
ordered_keys-requires c =
    both_long (rows_seen c.args.rows.now) (window_plan c.args.window.now) (lists_in c.in_ok-values.values.lists)
    (lists_in c.in_ok-keys.keys.lists) c.in_ok-values.ensures.gives c.in_ok-keys.ensures.gives

pub returns-clause-order : goal.returns-clause-order
returns-clause-order c =
    order_made (rows_seen c.args.rows.now) (window_plan c.args.window.now) (lists_in c.in_ok-values.values.lists)
    (lists_in c.in_ok-keys.keys.lists) c.in_ok-values.values.orders.items c.in_ok-keys.keys.orders.items
    c.in_ok-values.ensures.gives c.in_ok-keys.ensures.gives c.in_ok-values.ensures.orders c.in_ok-keys.ensures.orders
    ∙ ap Ok (sym c.in_ok-order.ensures)
