use Rattle.std.proofs.Common.{◌≡◌, ◌≤◌, ◌+◌, drop, map}
use Rattle.wquery.specs.QueryTree.{view_item}
use Rattle.wwindows.specs.Limits.{over_items, counted}
use Rattle.wwindows.proofs.counting.count_in_items.Given as goal

abbrev pub invariant-items : goal.invariant-items
invariant-items l = (l.count ≤ 33) × (counted (over_items (map view_item l.items))
    ≡ counted (l.count + over_items (map view_item (drop l.item-index l.items))))
