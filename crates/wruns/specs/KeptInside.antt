-- How the runs of a segment are kept.
use Rattle.std.specs.Prelude.{All}
use Rattle.wruns.specs.Runs.{IsRunOf}
use Rattle.wruns.specs.KeptRuns.{KeptParts, keys_kept, runs_in, HasRoom}
use Rattle.wruns.specs.declared.kept_runs.KeptRuns.TheInside.{Inside}

abbrev pub parts_of : Inside → KeptParts
parts_of k = record { content = k.segment.value; orders = keys_kept (runs_in k.runs) }

-- each run is the one list of the segment's rows for its keys, and there is room for four
pub record IsKept (k : Inside) : Type 0 where
  pub one : All (λ r. IsRunOf k.segment.value.rows r.value) (runs_in k.runs)
  pub room : HasRoom k.runs
