use Rattle.std.proofs.Common.{◌≡◌}
use Rattle.wentries.proofs.blocks.make_cells_in.Given as goal

-- what is held stays
abbrev pub invariant-loop-i : goal.invariant-loop-i
invariant-loop-i l = l.blocks.items ≡ l.initial.blocks.items
