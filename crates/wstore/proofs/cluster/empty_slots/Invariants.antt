use Rattle.std.proofs.Common.{◌≡◌, replicate, []}
use Rattle.wstore.proofs.cluster.empty_slots.Given as goal

abbrev pub invariant-loop : goal.invariant-loop
invariant-loop l = l.slots.items ≡ replicate l.counter []
