use Rattle.std.proofs.Common.{◌≡◌, ◌++◌, map, take}
use Rattle.wvalues.specs.Meaning.{meaning}
use Rattle.wrows.specs.Laid.{rows_seen}
use Rattle.wrows.specs.Columns.{value_at}
use Rattle.wrows.specs.Picked.{with_columns}
use Rattle.wrows.proofs.place_values.push_picked.Given as goal

abbrev pub invariant-loop-place : goal.invariant-loop-place
invariant-loop-place l = map meaning l.cells.items ≡ map meaning l.fn.cells.items ++ map
    (value_at (with_columns (map meaning l.own) (rows_seen l.extended.columns.now) l.row)) (take l.place-index l.places)
