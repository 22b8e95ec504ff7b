use Rattle.std.proofs.Common.{◌≡◌, length}
use Rattle.wcalls.proofs.functions.nulls.Given as goal

abbrev pub invariant-loop : goal.invariant-loop
invariant-loop l = length l.nulls.items ≡ l.counter
