use Rattle.std.proofs.Common.{◌≡◌, ◌≤◌, ◌+◌, ◌++◌, drop, map}
use Rattle.wplan.specs.Plans.{call_plan}
use Rattle.wscope.specs.Earlier.{windows_in}
use Rattle.wdistinct.specs.Calls.{call_trees}
use Rattle.wbinding.specs.Resolving.{layout_of}
use Rattle.wresolve.specs.Selecting.{calls_made}
use Rattle.wresolve.proofs.windows.build_calls.Given as goal

abbrev pub invariant-calls : goal.invariant-calls
invariant-calls l = (l.next ≤ l.first + l.call-index)
    × (map call_plan l.made.items ++ calls_made (layout_of l.layout) (windows_in l.entries) l.next
    (call_trees (drop l.call-index l.calls)) ≡ calls_made (layout_of l.layout) (windows_in l.entries) l.first (call_trees l.calls))
