use Rattle.std.proofs.Common.{◌≡◌, ◌++◌, drop, map}
use Rattle.wquery.specs.Tree.{view_key}
use Rattle.wplan.specs.Plans.{key_plan}
use Rattle.wresolve.specs.Shown.{shown_items}
use Rattle.wbinding.specs.Resolving.{layout_of}
use Rattle.wresolve.specs.Selecting.{order_made}
use Rattle.wresolve.proofs.selecting.build_order.Given as goal

abbrev pub invariant-keys : goal.invariant-keys
invariant-keys l = map key_plan l.made.items ++ map (order_made (layout_of l.layout) (shown_items l.shown))
    (map view_key (drop l.key-index l.order)) ≡ map (order_made (layout_of l.layout) (shown_items l.shown)) (map view_key l.order)
