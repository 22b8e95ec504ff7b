-- Partitions of rows that stand in the order of their partition values.
use Rattle.std.specs.Prelude.{◌≡◌, ℕ, ◌<◌, ◌≤◌, List, length, filter}
use Rattle.std.specs.declared.cmp.Ordering.{Ordering}
use Rattle.wvalues.specs.Meaning.{Meaning}
use Rattle.wframe.specs.declared.frame.Span.{Span}
use Rattle.wframe.specs.Places.{places, span_places, is_in_span}
use Rattle.wframe.specs.Peers.{are_peers, is_before, is_upto}
use Rattle.wframe.specs.Cuts.{CutsAt}

-- the rows that agree with the span's first on the partition values, and no others
pub record IsPartition (cmp : List Meaning → List Meaning → Ordering) (values : List (List Meaning)) (s : Span) : Type 0 where
  pub filtered : span_places s ≡ filter (are_peers cmp values s.from) (places (length values))
  pub each : (j : ℕ) → j < length values → is_in_span s j ≡ are_peers cmp values s.from j
  pub some : s.from < s.to
  pub within : s.to ≤ length values

-- where the peers of a row begin, and where they end
pub record IsGroup (cmp : List Meaning → List Meaning → Ordering) (keys : List (List Meaning)) (row : ℕ) (s : Span) : Type 0 where
  pub start : CutsAt (length keys) (is_before cmp keys row) s.from
  pub end : CutsAt (length keys) (is_upto cmp keys row) s.to
