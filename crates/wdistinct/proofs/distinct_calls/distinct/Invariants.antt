use Rattle.std.proofs.Common.{◌≡◌, [], drop}
use Rattle.wdistinct.specs.Calls.{call_trees, with_new}
use Rattle.wdistinct.specs.Places.{calls_in}
use Rattle.wdistinct.proofs.distinct_calls.distinct.Given as goal

abbrev pub invariant-calls : goal.invariant-calls
invariant-calls l = with_new (calls_in l.made) (call_trees (drop l.call-index l.calls)) ≡ with_new [] (call_trees l.calls)
