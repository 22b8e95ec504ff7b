use Rattle.std.proofs.Common.{◌≡◌, map, take}
use Rattle.wcodes.specs.CodedRows.{key_column, values_seen}
use Rattle.wruns.specs.Heads.{head_row}
use Rattle.wruns.specs.Merging.{rows_seen}
use Rattle.wruns.proofs.heads.HeadRowsColumnar.column.Given as goal

-- the values so far
abbrev pub invariant-loop-head : goal.invariant-loop-head
invariant-loop-head l = values_seen l.column.items ≡ key_column l.col (map (head_row (rows_seen l.self.sources.now))
    (take l.head-index l.self.heads.now))
