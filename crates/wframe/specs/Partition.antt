-- One window partition: its rows in the window's order, with the frame clause (<window clause>).
use Rattle.std.specs.Prelude.{ℕ, List, length, filter, slice_range}
use Rattle.wvalues.specs.declared.key.SortKey.{SortKey}
use Rattle.wvalues.specs.Meaning.{Meaning}
use Rattle.wvalues.specs.Order.{keys_cmp}
use Rattle.wframe.specs.declared.frame.Frame.{Frame}
use Rattle.wframe.specs.declared.frame.Span.{Span}
use Rattle.wframe.specs.Places.{places}
use Rattle.wframe.specs.Peers.{are_peers}

-- the window ordering, the key list of each row, in that order, and the frame clause
pub record Partition : Type 0 where
  pub order : List SortKey
  pub keys : List (List Meaning)
  pub frame : Frame

-- the peers of a row
abbrev pub peer_rows : Partition → ℕ → List ℕ
peer_rows p i = filter (are_peers (keys_cmp p.order) p.keys i) (places (length p.keys))

-- rows of several partitions, one partition after another, and the span of each
pub record Partitioned : Type 0 where
  pub order : List SortKey
  pub keys : List (List Meaning)
  pub frame : Frame
  pub spans : List Span

-- the partition of a span
abbrev pub partition_of : Partitioned → Span → Partition
partition_of all s = record { order = all.order; keys = slice_range all.keys s.from s.to; frame = all.frame }
