-- References to the rows of a run.
use Rattle.std.specs.Prelude.{ℕ, List, map}
use Rattle.wruns.specs.Runs.{joined, RunParts}
use Rattle.wruns.specs.declared.refs.RowRef.{RowRef}

-- the row at a place of the segment of a number
abbrev pub ref : ℕ → ℕ → RowRef
ref segment row = record { segment = segment; row = row }

-- the rows of a run of the segment of a number
abbrev pub run_refs : ℕ → RunParts → List RowRef
run_refs segment run = map (ref segment) (joined run.groups)
