use Rattle.std.proofs.Common.{ℕ, ◌-◌, ◌<◌, ◌≤◌}
use Rattle.wframe.specs.Places.{span_at}
use Rattle.wslide.proofs.window.longest.Given as goal

abbrev pub invariant-loop-number : goal.invariant-loop-number
invariant-loop-number l =
    (k : ℕ) → l.fn.numbers.from ≤ k → k < l.number
    → (span_at l.partitions.spans k).to - (span_at l.partitions.spans k).from ≤ l.longest
