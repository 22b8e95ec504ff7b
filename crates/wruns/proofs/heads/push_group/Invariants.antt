use Rattle.std.proofs.Common.{◌≡◌, ◌++◌, map, take}
use Rattle.wruns.specs.Heads.{group_at, groups_seen}
use Rattle.wruns.specs.Lists.{ref}
use Rattle.wruns.proofs.heads.push_group.Given as goal

-- the rows so far
abbrev pub invariant-loop-row : goal.invariant-loop-row
invariant-loop-row l = l.refs.items ≡ l.initial.refs.items ++ map (ref l.fn.head.first.segment)
    (take l.row-index (group_at (groups_seen l.sources) l.fn.head))
