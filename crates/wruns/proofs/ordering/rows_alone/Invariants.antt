use Rattle.std.proofs.Common.{◌≡◌, map, take}
use Rattle.wruns.specs.Lists.{ref}
use Rattle.wruns.specs.Runs.{joined}
use Rattle.wruns.proofs.ordering.rows_alone.Given as goal

-- the rows so far
abbrev pub invariant-loop-row : goal.invariant-loop-row
invariant-loop-row l = l.refs.items ≡ map (ref 0) (take l.row-index (joined l.run.groups))
