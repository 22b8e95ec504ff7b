use Rattle.std.proofs.Common.{◌≡◌, take}
use Rattle.wcodes.specs.CodedRows.{key_column, values_seen}
use Rattle.wruns.specs.Dealing.{segment_rows}
use Rattle.wruns.specs.Runs.{joined}
use Rattle.wruns.proofs.dealing.JoinedRowsColumnar.column.Given as goal

-- the values of the segments so far
abbrev pub invariant-loop-segment : goal.invariant-loop-segment
invariant-loop-segment l = values_seen l.column.items ≡ key_column l.col (joined (segment_rows (take l.segment-index l.self.segments.now)))
