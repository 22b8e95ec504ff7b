use Rattle.std.proofs.Common.{◌≡◌, ◌++◌, map, take}
use Rattle.wvalues.specs.Meaning.{meaning}
use Rattle.wrows.specs.Columns.{value_at}
use Rattle.wgroup.specs.Held.{columns_in}
use Rattle.wgroup.proofs.having.push_results.Given as goal

abbrev pub invariant-loop-column : goal.invariant-loop-column
invariant-loop-column l = map meaning l.out.items ≡ map meaning l.fn.out.items ++ map (λ column. value_at column l.place)
    (columns_in (take l.column-index l.columns))
