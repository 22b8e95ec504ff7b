use Rattle.std.proofs.Common.{◌≡◌, drop, map}
use Rattle.wquery.specs.QueryTree.{view_item}
use Rattle.wscope.specs.Scope.{some_item}
use Rattle.wscope.proofs.scoping.any_in_items.Given as goal

abbrev pub invariant-items : goal.invariant-items
invariant-items g l = some_item (g.T.NodeTest.sees l.test) (map view_item l.items) ≡ some_item (g.T.NodeTest.sees l.test)
    (map view_item (drop l.item-index l.items))
