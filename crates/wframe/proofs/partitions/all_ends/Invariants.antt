use Rattle.std.proofs.Common.{ℕ, ◌<◌, length}
use Rattle.wframe.specs.KeyRows.{key_lists, sort_keys}
use Rattle.wframe.specs.Places.{span_at}
use Rattle.wframe.specs.Partition.{Partitioned, partition_of}
use Rattle.wframe.specs.FrameEnds.{HasFrames, AreLong}
use Rattle.wframe.proofs.PlaceFacts.{start_of}
use Rattle.wframe.proofs.partitions.all_ends.Given as goal

abbrev pub invariant-loop-span : goal.invariant-loop-span
invariant-loop-span l =
    let all : Partitioned = record { order = sort_keys l.keys; keys = key_lists l.keys; frame = l.frame; spans = l.spans } in
    record {
      long : AreLong l.frame (start_of (length (key_lists l.keys)) l.spans l.span-index) l.ends;
      each : (k : ℕ) → k < l.span-index → HasFrames (partition_of all (span_at l.spans k)) (span_at l.spans k).from l.ends;
    }
