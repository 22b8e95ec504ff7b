use Rattle.std.proofs.Common.{◌≡◌, ◌≤◌, length, map, take}
use Rattle.wplan.specs.Plans.{call_plan}
use Rattle.wplanner.specs.ByWindow.{functions_over}
use Rattle.wplanner.proofs.windows.count_over.Given as goal

abbrev pub invariant-loop-call : goal.invariant-loop-call
invariant-loop-call l = record {
  so_far : l.count ≡ length (functions_over (map call_plan (take l.call-index l.calls)) l.window);
  few : l.count ≤ l.call-index;
}
