use Rattle.std.proofs.Common.{◌≡◌, ◌++◌, map, take}
use Rattle.wvalues.specs.Meaning.{meaning}
use Rattle.wrows.specs.Columns.{value_at}
use Rattle.wrows.proofs.joined.push_answers.Given as goal

abbrev pub invariant-loop-column : goal.invariant-loop-column
invariant-loop-column l = map meaning l.cells.items ≡ map meaning l.fn.cells.items ++ map
    (λ column. value_at (map meaning column.now) l.row) (take l.column-index l.columns)
