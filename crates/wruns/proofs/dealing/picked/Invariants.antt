use Rattle.std.proofs.Common.{◌≡◌, map, take}
use Rattle.wruns.specs.Dealing.{ref_at}
use Rattle.wruns.proofs.dealing.picked.Given as goal

-- the rows so far
abbrev pub invariant-loop-number : goal.invariant-loop-number
invariant-loop-number l = l.rows.items ≡ map (ref_at l.all) (take l.number-index l.numbers)
