use Rattle.std.proofs.Common.{◌≡◌, map, take}
use Rattle.wplan.specs.Plans.{call_plan}
use Rattle.wcalls.specs.Lent.{functions_seen}
use Rattle.wplanner.specs.ByWindow.{functions_over}
use Rattle.wplanner.proofs.windows.functions_over.Given as goal

abbrev pub invariant-loop-call : goal.invariant-loop-call
invariant-loop-call l = functions_seen l.functions.items ≡ functions_over (map call_plan (take l.call-index l.calls)) l.window
