use Rattle.std.proofs.Common.{◌≡◌, drop}
use Rattle.waggregate.specs.Alike.{extremes_alike, functions_alike}
use Rattle.waggregate.proofs.AlikeFacts.{asked_after}
use Rattle.waggregate.proofs.alike.extremes_of.Given as goal

abbrev pub invariant-loop-call : goal.invariant-loop-call
invariant-loop-call l = asked_after l.found (functions_alike l.place (drop l.call-index l.calls)) ≡ extremes_alike l.place l.calls
