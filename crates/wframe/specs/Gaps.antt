-- What an exclusion leaves of a frame's extent: <window frame exclusion>. The excluded rows stand together; at most the row
-- itself is kept among them.
use Rattle.std.specs.Prelude.{ℕ, ◌+◌, max, min, length, filter}
use Rattle.wvalues.specs.Order.{keys_cmp}
use Rattle.wframe.specs.declared.frame.FrameExclusion.{FrameExclusion}
use Rattle.wframe.specs.declared.frame.FrameExclusion.TheVariants.{CurrentRow, Group, Ties, NoOthers}
use Rattle.wframe.specs.declared.frame.Span.{Span}
use Rattle.wframe.specs.Places.{places}
use Rattle.wframe.specs.Peers.{is_before, is_upto}
use Rattle.wframe.specs.Partition.{Partition}
use Rattle.wframe.specs.Frame.{frame_extent}

-- the span of a row's peers
abbrev pub peer_span : Partition → ℕ → Span
peer_span p i = record {
  from = length (filter (is_before (keys_cmp p.order) p.keys i) (places (length p.keys)));
  to =
      length (filter (is_upto (keys_cmp p.order) p.keys i) (places (length p.keys)));
}

-- the place of a span that is nearest to a place
abbrev pub nearest : Span → ℕ → ℕ
nearest s place = max s.from (min place s.to)

-- what is left of a span before the excluded rows, of a row with these peers
abbrev pub before_gap : FrameExclusion → Span → ℕ → Span → Span
before_gap CurrentRow s row peers = record { from = s.from; to = nearest s row }
before_gap Group s row peers = record { from = s.from; to = nearest s peers.from }
before_gap Ties s row peers = record { from = s.from; to = nearest s peers.from }
before_gap NoOthers s row peers = record { from = s.from; to = nearest s s.to }

-- what is left among them: the row, where its peers alone are excluded
abbrev pub within_gap : FrameExclusion → Span → ℕ → Span → Span
within_gap CurrentRow s row peers = record { from = nearest s (row + 1); to = nearest s (row + 1) }
within_gap Group s row peers = record { from = nearest s peers.to; to = nearest s peers.to }
within_gap Ties s row peers = record { from = nearest s row; to = nearest s (row + 1) }
within_gap NoOthers s row peers = record { from = nearest s s.to; to = nearest s s.to }

-- what is left behind them
abbrev pub behind_gap : FrameExclusion → Span → ℕ → Span → Span
behind_gap CurrentRow s row peers = record { from = nearest s (row + 1); to = s.to }
behind_gap Group s row peers = record { from = nearest s peers.to; to = s.to }
behind_gap Ties s row peers = record { from = nearest s peers.to; to = s.to }
behind_gap NoOthers s row peers = record { from = nearest s s.to; to = s.to }

-- the three spans of a row's frame
abbrev pub before_span : Partition → ℕ → Span
before_span p i = before_gap p.frame.exclusion (frame_extent p i) i (peer_span p i)

abbrev pub within_span : Partition → ℕ → Span
within_span p i = within_gap p.frame.exclusion (frame_extent p i) i (peer_span p i)

abbrev pub behind_span : Partition → ℕ → Span
behind_span p i = behind_gap p.frame.exclusion (frame_extent p i) i (peer_span p i)
