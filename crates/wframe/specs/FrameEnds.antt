-- Lists that have the frames and the peers of partitions.
use Rattle.std.specs.Prelude.{◌≡◌, ℕ, ◌<◌, ◌≤◌, true, not, max, length, slice_index}
use Rattle.wvalues.specs.Order.{keys_cmp}
use Rattle.wframe.specs.declared.ends.FrameEnds.{FrameEnds}
use Rattle.wframe.specs.Peers.{AreOrdered, is_before, is_upto}
use Rattle.wframe.specs.PeerGroups.{begins_of}
use Rattle.wframe.specs.declared.frame.Frame.{Frame}
use Rattle.wframe.specs.declared.frame.Span.{Span}
use Rattle.wframe.specs.Offsets.{moves_groups}
use Rattle.wframe.specs.Cuts.{CutsAt, HasNumberedCuts, BeginsWith}
use Rattle.wframe.specs.Places.{span_at, Tiles}
use Rattle.wframe.specs.Partition.{Partition, Partitioned, partition_of}
use Rattle.wframe.specs.Frame.{is_before_start, is_after_end, frame_start, frame_end}

-- from `first` on, the peers of a partition, and the frames where these move keys or group numbers
pub record HasFrames (p : Partition) (first : ℕ) (stored : FrameEnds) : Type 0 where
  pub ordered : AreOrdered (keys_cmp p.order) p.keys
  pub starts : moves_groups p.frame ≡ true
      → HasNumberedCuts first (length p.keys) (is_before_start p.order p.keys p.frame.mode p.frame.start)
      stored.numbers.items stored.starts.items
  pub ends : moves_groups p.frame ≡ true
      → HasNumberedCuts first (length p.keys) (λ i j. not (is_after_end p.order p.keys p.frame.mode p.frame.end i j))
      stored.numbers.items stored.ends.items
  pub peer_starts : HasNumberedCuts first (length p.keys) (is_before (keys_cmp p.order) p.keys) stored.numbers.items
      (begins_of stored.peer_ends.items)
  pub peer_ends : HasNumberedCuts first (length p.keys) (is_upto (keys_cmp p.order) p.keys) stored.numbers.items stored.peer_ends.items

-- what is there stays
pub record Extends (old new : FrameEnds) : Type 0 where
  pub numbers : BeginsWith old.numbers.items new.numbers.items
  pub peer_ends : BeginsWith old.peer_ends.items new.peer_ends.items
  pub starts : BeginsWith old.starts.items new.starts.items
  pub ends : BeginsWith old.ends.items new.ends.items

-- n rows have a number, and their groups, at most one a row, end where the rows do; where the frame moves keys or group
-- numbers, each group has a start and an end
pub record AreLong (frame : Frame) (n : ℕ) (stored : FrameEnds) : Type 0 where
  pub numbers : length stored.numbers.items ≡ n
  pub last : slice_index (begins_of stored.peer_ends.items) (length stored.peer_ends.items) ≡ n
  pub few : length stored.peer_ends.items ≤ n
  pub starts : moves_groups frame ≡ true → length stored.starts.items ≡ length stored.peer_ends.items
  pub ends : moves_groups frame ≡ true → length stored.ends.items ≡ length stored.peer_ends.items

-- the frames and peers of each partition
pub record HasAllFrames (all : Partitioned) (stored : FrameEnds) : Type 0 where
  pub tiles : Tiles 0 all.spans (length all.keys)
  pub long : AreLong all.frame (length all.keys) stored
  pub each : (k : ℕ) → k < length all.spans → HasFrames (partition_of all (span_at all.spans k)) (span_at all.spans k).from stored

-- a row's frame goes from its start to its end
pub record IsFrameOf (p : Partition) (row : ℕ) (r : Span) : Type 0 where
  pub from : r.from ≡ frame_start p row
  pub to : r.to ≡ max (frame_start p row) (frame_end p row)
  pub start : CutsAt (length p.keys) (is_before_start p.order p.keys p.frame.mode p.frame.start row) (frame_start p row)
  pub end : CutsAt (length p.keys) (λ j. not (is_after_end p.order p.keys p.frame.mode p.frame.end row j)) (frame_end p row)
