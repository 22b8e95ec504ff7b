use Rattle.std.proofs.Common.{◌≡◌, ◌++◌, map}
use Rattle.wframe.specs.Places.{places}
use Rattle.wruns.specs.Lists.{ref}
use Rattle.wruns.proofs.dealing.push_refs.Given as goal

-- the rows so far
abbrev pub invariant-loop-row : goal.invariant-loop-row
invariant-loop-row l = l.refs.items ≡ l.initial.refs.items ++ map (ref l.segment) (places l.row)
