use Rattle.std.proofs.Common.{◌≡◌, ◌++◌, drop}
use Rattle.wruns.specs.Dealing.{segment_rows}
use Rattle.wruns.specs.Refs.{pieces_from, refs}
use Rattle.wruns.specs.Runs.{joined}
use Rattle.wruns.proofs.dealing.refs_by_number.Given as goal

-- the rows so far, and those of the segments that are left
abbrev pub invariant-loop-i : goal.invariant-loop-i
invariant-loop-i l = l.refs.items ++ joined (pieces_from l.i (segment_rows (drop l.i l.table.segments.now)))
    ≡ refs (segment_rows l.table.segments.now)
