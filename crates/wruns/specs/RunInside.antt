-- How a run is kept.
use Rattle.wruns.specs.Runs.{RunParts}
use Rattle.wruns.specs.Cuts.{pieces_of, AreEndsOf}
use Rattle.wruns.specs.declared.run.Run.TheInside.{Inside}

abbrev pub parts_of : Inside → RunParts
parts_of r = record { keys = r.keys.items; groups = pieces_of r.ends r.rows.items }

abbrev pub HasEnds : Inside → Type 0
HasEnds r = AreEndsOf r.ends r.rows.items
