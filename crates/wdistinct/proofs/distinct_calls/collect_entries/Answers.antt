use Rattle.wdistinct.specs.Calls.{call_trees, is_call_of}
use Rattle.wdistinct.proofs.Collected.{next_entry}
use Rattle.wdistinct.proofs.distinct_calls.collect_entries.Goals as goal

pub entries-preserved : goal.entries-preserved
entries-preserved c =
    next_entry (is_call_of c.args.kind) c.args.entries.now c.entries.entry-index c.entry-item.result
    (call_trees c.entries.calls.items) (call_trees c.collect_window.new.calls.items) _ c.entries-test.true
    c.entry-item.is c.entries.invariant c.in_ok-collect_window.ensures
