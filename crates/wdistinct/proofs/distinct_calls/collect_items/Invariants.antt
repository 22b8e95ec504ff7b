use Rattle.std.proofs.Common.{◌≡◌, ◌++◌, drop, map}
use Rattle.wquery.specs.QueryTree.{view_item}
use Rattle.wdistinct.specs.Calls.{call_trees, is_call_of, nodes_in_items}
use Rattle.wdistinct.proofs.distinct_calls.collect_items.Given as goal

abbrev pub invariant-items : goal.invariant-items
invariant-items l = call_trees l.calls.items ++ nodes_in_items (is_call_of l.kind)
    (map view_item (drop l.item-index l.items)) ≡ call_trees l.fn.calls.items ++ nodes_in_items (is_call_of l.kind) (map view_item l.items)
