use Rattle.std.proofs.Common.{ℕ, ◌<◌, get_or}
use Rattle.wvalues.specs.Meaning.{Null}
use Rattle.wframe.specs.Cells.{meanings}
use Rattle.wslide.specs.Aggregates.{IsInRange}
use Rattle.wslide.proofs.ranges.see_ranges.Given as goal

abbrev pub invariant-loop-row : goal.invariant-loop-row
invariant-loop-row l = (i : ℕ) → i < l.row → IsInRange (get_or (meanings l.values) i Null)
