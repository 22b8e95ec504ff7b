use Rattle.std.proofs.Common.{◌≡◌, ◌++◌, drop, map}
use Rattle.wquery.specs.QueryTree.{view_entry}
use Rattle.wdistinct.specs.Calls.{call_trees, is_call_of, nodes_in_entries}
use Rattle.wdistinct.proofs.distinct_calls.collect_entries.Given as goal

abbrev pub invariant-entries : goal.invariant-entries
invariant-entries l = call_trees l.calls.items ++ nodes_in_entries (is_call_of l.kind)
    (map view_entry (drop l.entry-index l.entries)) ≡ call_trees l.fn.calls.items ++ nodes_in_entries (is_call_of l.kind)
    (map view_entry l.entries)
