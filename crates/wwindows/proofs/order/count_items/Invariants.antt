use Rattle.std.proofs.Common.{◌≡◌, ◌≤◌, ◌*◌, ◌^◌, ◌+◌, drop, map}
use Rattle.wquery.specs.QueryTree.{view_item}
use Rattle.wscope.specs.Sources.{all_titled}
use Rattle.wwindows.specs.Order.{count_items}
use Rattle.wwindows.proofs.order.count_items.Given as goal

abbrev pub invariant-items : goal.invariant-items
invariant-items l = (l.count ≤ l.item-index * 2 ^ 64) × (count_items (all_titled l.columns) (map view_item l.items)
    ≡ l.count + count_items (all_titled l.columns) (map view_item (drop l.item-index l.items)))
