use Rattle.std.proofs.Common.{◌≡◌, map, take}
use Rattle.wvalues.specs.Meaning.{meaning}
use Rattle.wcolumns.specs.Columns.{placed}
use Rattle.wcolumns.proofs.near.copies_at.Given as goal

abbrev pub invariant-loop-row : goal.invariant-loop-row
invariant-loop-row l = map meaning l.copies.items ≡ placed l.place (take l.row-index l.rows)
