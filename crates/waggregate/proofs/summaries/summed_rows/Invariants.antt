use Rattle.std.proofs.Common.{ℕ, ◌<◌, get_or}
use Rattle.wvalues.specs.Meaning.{Null}
use Rattle.wslide.specs.Aggregates.{IsInRange}
use Rattle.waggregate.specs.Feeding.{values_of}
use Rattle.waggregate.specs.Summaries.{AreSummed}
use Rattle.waggregate.proofs.summaries.summed_rows.Given as goal

abbrev pub invariant-loop-row : goal.invariant-loop-row
invariant-loop-row l = record {
  summed : AreSummed (values_of l.argument) l.extremes l.groups l.row l.count l.summaries.items;
  ranges : (i : ℕ) → i < l.row → IsInRange (get_or (values_of l.argument) i Null);
}
