use Rattle.std.proofs.Common.{◌≡◌, map, string_bytes, take}
use Rattle.wfolder.specs.Memory.{leading_of, new_names}
use Rattle.wfolder.proofs.disk.Disk.names.Given as goal

-- the names of those that were gone over
abbrev pub invariant-loop-entry : goal.invariant-loop-entry
invariant-loop-entry l = map string_bytes l.names.items ≡ new_names l.folder (map leading_of (take l.entry-index l.self.entries.items))
