-- Where the rows begin and end that an exclusion takes out, and those that it keeps among them.
use Rattle.std.specs.Prelude.{ℕ, ◌+◌}
use Rattle.wframe.specs.declared.exclusion.Gap.{Gap}
use Rattle.wframe.specs.declared.frame.FrameExclusion.{FrameExclusion}
use Rattle.wframe.specs.declared.frame.FrameExclusion.TheVariants.{CurrentRow, Group, Ties, NoOthers}
use Rattle.wframe.specs.declared.frame.Span.{Span}

-- of a row with these peers and this extent
abbrev pub gap_of : FrameExclusion → Span → ℕ → Span → Gap
gap_of CurrentRow s row peers = record { from = row; kept_from = row + 1; kept_to = row + 1; to = row + 1 }
gap_of Group s row peers = record { from = peers.from; kept_from = peers.to; kept_to = peers.to; to = peers.to }
gap_of Ties s row peers = record { from = peers.from; kept_from = row; kept_to = row + 1; to = peers.to }
gap_of NoOthers s row peers = record { from = s.to; kept_from = s.to; kept_to = s.to; to = s.to }
