use Rattle.std.proofs.Common.{◌≡◌, ◌++◌, take}
use Rattle.wrows.specs.Laid.{rows_seen}
use Rattle.wtable.proofs.front.push_front.Given as goal

abbrev pub invariant-loop-row : goal.invariant-loop-row
invariant-loop-row l = rows_seen l.rows.items ≡ rows_seen l.fn.rows.items ++ take l.row l.segment.rows
