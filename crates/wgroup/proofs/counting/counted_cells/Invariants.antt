use Rattle.std.proofs.Common.{◌≡◌, map, pos, take}
use Rattle.wvalues.specs.Meaning.{Int, meaning}
use Rattle.wgroup.proofs.counting.counted_cells.Given as goal

abbrev pub invariant-loop : goal.invariant-loop
invariant-loop l = map meaning l.cells.items ≡ map (λ c. Int (pos l.count)) (take l.index l.calls)
