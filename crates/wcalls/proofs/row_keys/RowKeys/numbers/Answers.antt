use Rattle.std.proofs.Common.{◌<◌, length, ap, ◌∙◌, arith}
use Rattle.std.specs.Ordering.{on}
use Rattle.std.proofs.lemmas.List.Elements.{All-same, All-from_recursion}
use Rattle.wvalues.specs.Order.{keys_cmp}
use Rattle.wframe.specs.Peers.{key_at}
use Rattle.wframe.specs.Places.{places}
use Rattle.wframe.specs.Sorting.{sorted}
use Rattle.wrows.proofs.RowFacts.{places_below, length-places}
use Rattle.wcalls.specs.Listed.{lists_in}
use Rattle.wcalls.proofs.row_keys.RowKeys.numbers.Goals as goal

pub resorted-requires-clause-below : goal.resorted-requires-clause-below
resorted-requires-clause-below c =
    let n = length (lists_in c.args.self.now.lists) in
    All-same (λ i. i < n) c.in_ok-rows.rows.items (places n) (c.in_ok-rows.ensures ∙ ap places c.count.ensures)
    (All-from_recursion (λ i. i < n) (places n) (places_below 0 n n (omega arith)))

pub returns-clause-order : goal.returns-clause-order
returns-clause-order c =
    let lists = lists_in c.args.self.now.lists in
    c.in_ok-order.ensures.order ∙ ap (sorted (on (key_at lists) (keys_cmp c.args.self.now.orders.items)))
    (c.in_ok-rows.ensures ∙ ap places c.count.ensures)

pub returns-clause-len : goal.returns-clause-len
returns-clause-len c =
    c.in_ok-order.ensures.len ∙ ap length (c.in_ok-rows.ensures ∙ ap places c.count.ensures)
    ∙ length-places 0 (length (lists_in c.args.self.now.lists))
