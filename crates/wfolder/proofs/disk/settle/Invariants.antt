use Rattle.std.proofs.Common.{◌≡◌, ◌++◌, drop, map, take}
use Rattle.wfolder.specs.Memory.{leading_of, settled}
use Rattle.wfolder.proofs.disk.settle.Given as goal

-- those that were gone over are settled
abbrev pub invariant-loop-entry : goal.invariant-loop-entry
invariant-loop-entry l = map leading_of l.entries
    ≡ map settled (take l.entry-index (map leading_of l.fn.entries)) ++ drop l.entry-index (map leading_of l.fn.entries)
