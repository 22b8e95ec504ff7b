use Rattle.std.proofs.Common.{◌≡◌, map, take}
use Rattle.std.specs.List.{flat_map}
use Rattle.wvalues.specs.Meaning.{meaning}
use Rattle.wrows.specs.Laid.{row_seen}
use Rattle.wgroup.proofs.having.copied.Given as goal

abbrev pub invariant-loop-row : goal.invariant-loop-row
invariant-loop-row l = map meaning l.cells.items ≡ flat_map row_seen (take l.row-index l.rows)
