use Rattle.std.proofs.Common.{◌≡◌, replicate}
use Rattle.waggregate.proofs.summaries.repeated.Given as goal

abbrev pub invariant-loop : goal.invariant-loop
invariant-loop g l = l.parts.items ≡ replicate l.counter l.part
