use Rattle.std.proofs.Common.{◌≡◌, ◌++◌}
use Rattle.std.specs.List.{flat_map}
use Rattle.wrows.specs.Laid.{rows_seen}
use Rattle.wtable.specs.Tables.{rows_of_set}
use Rattle.wtable.proofs.kept_rows.table_rows.Given as goal

-- the rows so far, with those of the segments that are left, are all rows
abbrev pub invariant-segments : goal.invariant-segments
invariant-segments l = rows_seen l.rows.items ++ flat_map (λ e. e.1.rows) l.segment-iterator ≡ rows_of_set l.set
