use Rattle.std.proofs.Common.{◌≡◌, ℕ, List, length, refl, sym, ◌∙◌, subst}
use Rattle.std.specs.Ordering.{on}
use Rattle.wvalues.specs.Meaning.{Meaning}
use Rattle.wvalues.specs.Order.{keys_cmp}
use Rattle.wframe.specs.Peers.{key_at}
use Rattle.wframe.specs.Sorting.{sorted}
use Rattle.wrows.specs.Plain.{numbers_by}
use Rattle.wcalls.specs.Listed.{lists_in}
use Rattle.wcalls.specs.Ordered.{numbers_in_order}
use Rattle.wcalls.specs.RowOrders.{IsRowOrder}
use Rattle.wcalls.proofs.OrderFacts.{by_both, numbers_below, numbers_long}
use Rattle.wcalls.proofs.window_order.presorted_keys.Goals as goal

pub presorted_order-requires-clause-order : goal.presorted_order-requires-clause-order
presorted_order-requires-clause-order c =
    let vo = c.args.values.orders.items in
    let ko = c.args.keys.orders.items in
    let V : List (List Meaning) = lists_in c.args.values.lists in
    let K : List (List Meaning) = lists_in c.args.keys.lists in
    let nest : List ℕ = sorted (on (key_at V) (keys_cmp vo)) (numbers_by ko K (length K)) in
    let one : nest ≡ numbers_in_order V vo K ko = by_both V vo K ko nest (length K) (numbers_by ko K (length K))
    (sym c.requires.count) refl refl in
    c.requires.order ∙ sym one

pub presorted_order-requires-clause-below : goal.presorted_order-requires-clause-below
presorted_order-requires-clause-below c =
    let V : List (List Meaning) = lists_in c.args.values.lists in
    let K : List (List Meaning) = lists_in c.args.keys.lists in
    numbers_below V c.args.values.orders.items K c.args.keys.orders.items (length K) c.args.presorted.numbers.items c.requires.count
    c.requires.order

pub presorted_order-requires-clause-len : goal.presorted_order-requires-clause-len
presorted_order-requires-clause-len c =
    let V : List (List Meaning) = lists_in c.args.values.lists in
    let K : List (List Meaning) = lists_in c.args.keys.lists in
    numbers_long V c.args.values.orders.items K c.args.keys.orders.items (length K) c.args.presorted.numbers.items c.requires.count
    c.requires.order

pub kept_order-requires-clause-values : goal.kept_order-requires-clause-values
kept_order-requires-clause-values c = c.requires.count ∙ sym c.in_ok-order.ensures.len

pub kept_order-requires-clause-keys : goal.kept_order-requires-clause-keys
kept_order-requires-clause-keys c = sym c.in_ok-order.ensures.len

pub kept_order-requires-clause-order : goal.kept_order-requires-clause-order
kept_order-requires-clause-order c =
    let values = c.args.values in
    let keys = c.args.keys in
    let made = c.in_ok-order.ensures in
    subst (λ k. IsRowOrder values.orders.items (lists_in values.lists) keys.orders.items (lists_in keys.lists) k
    c.in_ok-order.order) (sym made.len) made
