use Rattle.std.proofs.Common.{◌≡◌, map, ap, ◌∙◌}
use Rattle.wframe.specs.KeyRows.{key_lists, sort_keys}
use Rattle.wframe.specs.Peers.{key_at}
use Rattle.wcalls.specs.Listed.{lists_in}
use Rattle.wcalls.specs.Ordered.{Ordered}
use Rattle.wcalls.specs.OrderKept.{order_of}
use Rattle.wcalls.proofs.OrderFacts.{arranged_in}
use Rattle.wcalls.proofs.window_order.WindowOrder.partitions.Goals as goal

pub returns-clause-arranged : goal.returns-clause-arranged
returns-clause-arranged c = λ w e f.
    let o = c.self.inside in
    let values = c.coded_rows-values.result in
    let by : sort_keys values ≡ o.values.orders.items = c.coded_rows-values.ensures.keys ∙ c.key_rows-rows.ensures.keys in
    let listed : key_lists values ≡ (order_of o).values = c.coded_rows-values.ensures.lists ∙ c.key_rows-rows.ensures.lists
    ∙ ap (map (key_at (lists_in o.values.lists))) c.deref.ensures.value in
    let built = c.in_ok-partitions.ensures in
    arranged_in w c.args.self.now c.in_ok-partitions.partitions values c.args.keys c.args.frame e f
    (listed ∙ ap (λ (x : Ordered). x.values) c.self.view_is) (by ∙ ap (λ (x : Ordered). x.value_order) c.self.view_is)
    c.requires.keys c.requires.order
    built.order built.keys built.frame built.tiles built.each
