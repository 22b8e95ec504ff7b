use Rattle.std.proofs.Common.{◌≡◌, ◌++◌, drop, map}
use Rattle.wplan.specs.Plans.{group_call_plan}
use Rattle.wdistinct.specs.Calls.{call_trees}
use Rattle.wbinding.specs.Resolving.{layout_of}
use Rattle.wbinding.specs.Groups.{group_call_made}
use Rattle.wresolve.proofs.selecting.build_group_calls.Given as goal

abbrev pub invariant-calls : goal.invariant-calls
invariant-calls l = map group_call_plan l.made.items ++ map (group_call_made (layout_of l.layout))
    (call_trees (drop l.call-index l.calls)) ≡ map (group_call_made (layout_of l.layout)) (call_trees l.calls)
