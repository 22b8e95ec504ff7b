use Rattle.std.proofs.Common.{◌≡◌, map, take}
use Rattle.wrows.specs.CodedRows.{values_seen}
use Rattle.wrows.specs.Columns.{value_at}
use Rattle.wrows.specs.Laid.{rows_seen}
use Rattle.wcalls.proofs.plain_lists.PlainLists.column.Given as goal

abbrev pub invariant-loop-row : goal.invariant-loop-row
invariant-loop-row l = values_seen l.column.items ≡ map (λ row. value_at row l.place) (rows_seen (take l.row-index l.self.rows.now))
