use Rattle.std.proofs.Common.{◌≡◌, map, take}
use Rattle.std.specs.List.{flat_map}
use Rattle.wvalues.specs.Meaning.{meaning}
use Rattle.wsort.specs.LaidRows.{laid}
use Rattle.wframe.specs.Peers.{key_at}
use Rattle.wrows.proofs.cells.gathered.Given as goal

abbrev pub invariant-loop-number : goal.invariant-loop-number
invariant-loop-number l = map meaning l.rows.items ≡ flat_map (key_at (laid l.width l.count l.cells)) (take l.number-index l.numbers)
