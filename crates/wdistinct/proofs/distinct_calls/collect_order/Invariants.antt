use Rattle.std.proofs.Common.{◌≡◌, ◌++◌, drop}
use Rattle.wquery.specs.Tree.{view_keys}
use Rattle.wdistinct.specs.Calls.{call_trees, is_call_of, nodes_in_order}
use Rattle.wdistinct.proofs.distinct_calls.collect_order.Given as goal

abbrev pub invariant-keys : goal.invariant-keys
invariant-keys l = call_trees l.calls.items ++ nodes_in_order (is_call_of l.kind) (view_keys (drop l.key-index l.order))
    ≡ call_trees l.fn.calls.items ++ nodes_in_order (is_call_of l.kind) (view_keys l.order)
