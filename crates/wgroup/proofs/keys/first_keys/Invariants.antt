use Rattle.std.proofs.Common.{◌≡◌, map, take}
use Rattle.std.specs.List.{flat_map}
use Rattle.wvalues.specs.Meaning.{meaning}
use Rattle.wrows.specs.Laid.{rows_seen}
use Rattle.wgroup.specs.Grouping.{group_key}
use Rattle.wgroup.proofs.keys.first_keys.Given as goal

abbrev pub invariant-loop-row : goal.invariant-loop-row
invariant-loop-row l = map meaning l.cells.items ≡ flat_map (group_key l.columns (rows_seen l.rows)) (take l.row-index l.firsts)
