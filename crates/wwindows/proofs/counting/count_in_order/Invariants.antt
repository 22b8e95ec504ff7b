use Rattle.std.proofs.Common.{◌≡◌, ◌≤◌, ◌+◌, drop, map}
use Rattle.wquery.specs.Tree.{view_key}
use Rattle.wwindows.specs.Limits.{over_order, counted}
use Rattle.wwindows.proofs.counting.count_in_order.Given as goal

abbrev pub invariant-keys : goal.invariant-keys
invariant-keys l = (l.count ≤ 33) × (counted (over_order (map view_key l.order))
    ≡ counted (l.count + over_order (map view_key (drop l.key-index l.order))))
