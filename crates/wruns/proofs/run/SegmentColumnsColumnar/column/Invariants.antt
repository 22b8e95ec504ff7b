use Rattle.std.proofs.Common.{◌≡◌, take}
use Rattle.wcodes.specs.CodedRows.{key_column, values_seen}
use Rattle.wruns.proofs.run.SegmentColumnsColumnar.column.Given as goal

-- the values so far
abbrev pub invariant-loop-row : goal.invariant-loop-row
invariant-loop-row l = values_seen l.column.items ≡ key_column l.col (take l.row l.self.segment.now.rows)
