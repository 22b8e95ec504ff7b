use Rattle.std.proofs.Common.{◌≡◌, ◌++◌, Some, map, take}
use Rattle.std.specs.List.{range_with_len}
use Rattle.wfolder.specs.Memory.{held_by}
use Rattle.wfolder.proofs.disk.Written.push_shorter.Given as goal

-- those that are shorter than the next
abbrev pub invariant-loop-length : goal.invariant-loop-length
invariant-loop-length l = held_by l.left.items
    ≡ held_by l.fn.left.items ++ map (λ n. Some (take n l.self.bytes.items)) (range_with_len 0 l.length)
