use Rattle.std.proofs.Common.{◌≡◌, Ok, map, sym, subst, ap, ◌∙◌}
use Rattle.wvalues.specs.Order.{keys_cmp}
use Rattle.wframe.specs.Codes.{TellApart}
use Rattle.wframe.specs.Peers.{key_at}
use Rattle.wplan.specs.Plans.{window_plan}
use Rattle.wrows.specs.Laid.{rows_seen}
use Rattle.wcalls.specs.Listed.{lists_in}
use Rattle.wcalls.specs.Ordered.{numbers_in_order, ordered_by, ordered_rows}
use Rattle.wcalls.proofs.WindowedFacts.{both_long, order_made, presorted_numbers}
use Rattle.wcalls.proofs.window_order.WindowOrder.presorted.Goals as goal

pub presorted_keys-requires-clause-count : goal.presorted_keys-requires-clause-count
presorted_keys-requires-clause-count c =
    both_long (rows_seen c.args.rows.now) (window_plan c.args.window.now) (lists_in c.in_ok-values.values.lists)
    (lists_in c.in_ok-keys.keys.lists) c.in_ok-values.ensures.gives c.in_ok-keys.ensures.gives

pub presorted_keys-requires-clause-order : goal.presorted_keys-requires-clause-order
presorted_keys-requires-clause-order c =
    presorted_numbers (rows_seen c.args.rows.now) (window_plan c.args.window.now) c.args.presorted.numbers.items _ c.requires.numbers
    (order_made (rows_seen c.args.rows.now) (window_plan c.args.window.now) (lists_in c.in_ok-values.values.lists)
    (lists_in c.in_ok-keys.keys.lists) c.in_ok-values.values.orders.items c.in_ok-keys.keys.orders.items
    c.in_ok-values.ensures.gives c.in_ok-keys.ensures.gives c.in_ok-values.ensures.orders c.in_ok-keys.ensures.orders)

pub presorted_keys-requires-clause-differ : goal.presorted_keys-requires-clause-differ
presorted_keys-requires-clause-differ c = λ known.
    let rows = rows_seen c.args.rows.now in
    let plan = window_plan c.args.window.now in
    let V = lists_in c.in_ok-values.values.lists in
    let K = lists_in c.in_ok-keys.keys.lists in
    let vo = c.in_ok-values.values.orders.items in
    let ko = c.in_ok-keys.keys.orders.items in
    let made : ordered_rows rows plan ≡ Ok (ordered_by V vo K ko) = order_made rows plan V K vo ko c.in_ok-values.ensures.gives
    c.in_ok-keys.ensures.gives c.in_ok-values.ensures.orders c.in_ok-keys.ensures.orders in
    let same : c.args.presorted.numbers.items ≡ numbers_in_order V vo K ko =
    presorted_numbers rows plan c.args.presorted.numbers.items (ordered_by V vo K ko) c.requires.numbers made in
    subst (λ l. TellApart (keys_cmp ko) (map (key_at K) l) l) (sym same) (c.requires.differ known (ordered_by V vo K ko) made)

pub returns-clause-order : goal.returns-clause-order
returns-clause-order c =
    order_made (rows_seen c.args.rows.now) (window_plan c.args.window.now) (lists_in c.in_ok-values.values.lists)
    (lists_in c.in_ok-keys.keys.lists) c.in_ok-values.values.orders.items c.in_ok-keys.keys.orders.items
    c.in_ok-values.ensures.gives c.in_ok-keys.ensures.gives c.in_ok-values.ensures.orders c.in_ok-keys.ensures.orders
    ∙ ap Ok (sym c.in_ok-order.ensures)
