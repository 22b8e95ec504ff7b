use Rattle.std.proofs.Common.{◌≡◌, take}
use Rattle.std.specs.List.{flat_map}
use Rattle.wfolder.specs.Disk.{files_of}
use Rattle.wfolder.specs.Memory.{held_by, states_at}
use Rattle.wfolder.proofs.disk.Disk.left.Given as goal

-- what is left of those that were gone over
abbrev pub invariant-loop-file : goal.invariant-loop-file
invariant-loop-file l = held_by l.left.items ≡ flat_map (states_at (files_of l.self)) (take l.file-index l.entry.earlier.items)
