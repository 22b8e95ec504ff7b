use Rattle.std.proofs.Common.{◌≡◌, ℕ, ◌+◌, ◌<◌, ◌≤◌, length, get_or}
use Rattle.wframe.specs.Cuts.{BeginsWith}
use Rattle.wframe.proofs.peers.push_group.Given as goal

abbrev pub invariant-loop : goal.invariant-loop
invariant-loop l =
    record {
      long : length l.numbers.items ≡ length l.fn.numbers.items + l.counter;
      stays : BeginsWith l.fn.numbers.items l.numbers.items;
      each : (i : ℕ) → length l.fn.numbers.items ≤ i → i < length l.numbers.items → get_or l.numbers.items i 0 ≡ l.number;
    }
