use Rattle.std.proofs.Common.{ℕ, ◌-◌, ◌<◌, ◌≤◌, length}
use Rattle.waggregate.specs.BatchEnds.{enough, rows_between}
use Rattle.waggregate.proofs.batch.end_of_batch.Given as goal

abbrev pub invariant-loop-to : goal.invariant-loop-to
invariant-loop-to l = record {
  some : l.from < l.to;
  within : l.to ≤ length l.partitions.spans;
  soon : (earlier : ℕ) → l.from < earlier → earlier < l.to → rows_between l.partitions.spans l.from earlier < enough;
}

abbrev pub decreases-loop-to : goal.decreases-loop-to
decreases-loop-to l = l.count - l.to
