use Rattle.std.proofs.Common.{◌≡◌, map, take}
use Rattle.wrows.specs.Laid.{rows_seen}
use Rattle.wtable.specs.Referenced.{referenced_row}
use Rattle.wtable.proofs.referenced.each_referenced.Given as goal

abbrev pub invariant-loop-reference : goal.invariant-loop-reference
invariant-loop-reference l = rows_seen l.rows.items ≡ map (referenced_row l.segments) (take l.reference-index l.refs)
