use Rattle.std.proofs.Common.{◌≡◌, ◌++◌, drop, map}
use Rattle.wplan.specs.Plans.{window_plan}
use Rattle.wscope.specs.Earlier.{windows_in}
use Rattle.wdistinct.specs.Calls.{call_trees}
use Rattle.wbinding.specs.Resolving.{layout_of}
use Rattle.wresolve.specs.Selecting.{own_windows}
use Rattle.wresolve.proofs.windows.push_own_windows.Given as goal

abbrev pub invariant-calls : goal.invariant-calls
invariant-calls l = map window_plan l.windows.items ++ own_windows (layout_of l.layout) (windows_in l.entries)
    (call_trees (drop l.call-index l.calls)) ≡ map window_plan l.fn.windows.items ++ own_windows (layout_of l.layout)
    (windows_in l.entries) (call_trees l.calls)
