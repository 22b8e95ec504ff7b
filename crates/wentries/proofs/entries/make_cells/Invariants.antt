use Rattle.std.proofs.Common.{◌≡◌}
use Rattle.wentries.proofs.entries.make_cells.Given as goal

-- what is held stays
abbrev pub invariant-loop-i : goal.invariant-loop-i
invariant-loop-i l = l.entries.items ≡ l.initial.entries.items
