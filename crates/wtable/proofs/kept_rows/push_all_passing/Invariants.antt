use Rattle.std.proofs.Common.{◌≡◌, ◌++◌, filter, take}
use Rattle.weval.specs.NumberTests.{passes_all}
use Rattle.wrows.specs.Laid.{rows_seen}
use Rattle.wtable.proofs.kept_rows.push_all_passing.Given as goal

abbrev pub invariant-loop-row : goal.invariant-loop-row
invariant-loop-row l = rows_seen l.held.items
    ≡ rows_seen l.fn.held.items ++ filter (passes_all l.tests.tests.items) (take l.row l.segment.rows)
