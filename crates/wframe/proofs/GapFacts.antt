-- What an exclusion leaves before the excluded rows and behind them slides along with the rows.
use Rattle.std.proofs.Common.{ℕ, ◌+◌, ◌<◌, ◌≤◌, length, arith}
use Rattle.wvalues.specs.Order.{keys_cmp}
use Rattle.wframe.specs.declared.frame.FrameMode.TheVariants.{Range}
use Rattle.wframe.specs.declared.frame.FrameBound.TheVariants as bounds
use Rattle.wframe.specs.declared.frame.FrameExclusion.{FrameExclusion}
use Rattle.wframe.specs.declared.frame.FrameExclusion.TheVariants.{CurrentRow, Group, Ties, NoOthers}
use Rattle.wframe.specs.declared.frame.Span.{Span}
use Rattle.wframe.specs.Places.{IsRisen}
use Rattle.wframe.specs.Peers.{AreOrdered, is_before, is_upto}
use Rattle.wframe.specs.Partition.{Partition}
use Rattle.wframe.specs.Frame.{frame_extent}
use Rattle.wframe.specs.Gaps.{peer_span, nearest, before_gap, within_gap, behind_gap, before_span, within_span, behind_span}
use Rattle.wframe.proofs.ModeFacts.{mode_start_cut, mode_end_cut}
use Rattle.wframe.proofs.FrameFacts.{count_rises}
use Rattle.wframe.proofs.LawFacts.{spans_rise}

peers_begin : (p : Partition) (i k : ℕ) → AreOrdered (keys_cmp p.order) p.keys → i ≤ k → k < length p.keys
    → (peer_span p i).from ≤ (peer_span p k).from
peers_begin p i k ordered l h = count_rises (length p.keys) (is_before (keys_cmp p.order) p.keys) i k
    (mode_start_cut p.order p.keys ordered Range bounds.CurrentRow) l h

peers_end : (p : Partition) (i k : ℕ) → AreOrdered (keys_cmp p.order) p.keys → i ≤ k → k < length p.keys
    → (peer_span p i).to ≤ (peer_span p k).to
peers_end p i k ordered l h = count_rises (length p.keys) (is_upto (keys_cmp p.order) p.keys) i k
    (mode_end_cut p.order p.keys ordered Range bounds.CurrentRow) l h

-- to be cut at a place that rises
module _ (n : ℕ) (s t : Span) (risen : IsRisen n s t) where
  cut_after : (a b : ℕ) → a ≤ b → IsRisen n (record { from = s.from; to = nearest s a }) (record { from = t.from; to = nearest t b })
  cut_after a b h = record { from = risen.from; to = near a b h; ordered = omega arith; within = last b }
    where
      last : (b : ℕ) → nearest t b ≤ n
      last b = let o = risen.ordered in let w = risen.within in omega (arith, o, w)

      near : (a b : ℕ) → a ≤ b → nearest s a ≤ nearest t b
      near a b h = let f = risen.from in let g = risen.to in let o = risen.ordered in omega (arith, f, g, o)

  cut_before : (a b : ℕ) → a ≤ b → IsRisen n (record { from = nearest s a; to = s.to }) (record { from = nearest t b; to = t.to })
  cut_before a b h =
      let f = risen.from in
      let g = risen.to in
      let o = risen.ordered in
      record { from = omega (arith, f, g, o); to = g; ordered = omega (arith, o); within = risen.within }

  pub before_rises : (exclusion : FrameExclusion) (i k : ℕ) (peers later : Span) → i ≤ k → peers.from ≤ later.from
      → IsRisen n (before_gap exclusion s i peers) (before_gap exclusion t k later)
  before_rises CurrentRow i k peers later h l = cut_after i k h
  before_rises Group i k peers later h l = cut_after peers.from later.from l
  before_rises Ties i k peers later h l = cut_after peers.from later.from l
  before_rises NoOthers i k peers later h l = cut_after s.to t.to risen.to

  pub behind_rises : (exclusion : FrameExclusion) (i k : ℕ) (peers later : Span) → i ≤ k → peers.to ≤ later.to
      → IsRisen n (behind_gap exclusion s i peers) (behind_gap exclusion t k later)
  behind_rises CurrentRow i k peers later h l = cut_before (i + 1) (k + 1) (omega arith)
  behind_rises Group i k peers later h l = cut_before peers.to later.to l
  behind_rises Ties i k peers later h l = cut_before peers.to later.to l
  behind_rises NoOthers i k peers later h l = cut_before s.to t.to risen.to

pub before_slides : (p : Partition) (i k : ℕ) → AreOrdered (keys_cmp p.order) p.keys → i ≤ k → k < length p.keys
    → IsRisen (length p.keys) (before_span p i) (before_span p k)
before_slides p i k ordered l h =
    before_rises (length p.keys) (frame_extent p i) (frame_extent p k) (spans_rise p i k ordered l h) p.frame.exclusion i k
    (peer_span p i) (peer_span p k) l (peers_begin p i k ordered l h)

pub behind_slides : (p : Partition) (i k : ℕ) → AreOrdered (keys_cmp p.order) p.keys → i ≤ k → k < length p.keys
    → IsRisen (length p.keys) (behind_span p i) (behind_span p k)
behind_slides p i k ordered l h =
    behind_rises (length p.keys) (frame_extent p i) (frame_extent p k) (spans_rise p i k ordered l h) p.frame.exclusion i k
    (peer_span p i) (peer_span p k) l (peers_end p i k ordered l h)

-- at most one row is kept among the excluded ones
few_at : (exclusion : FrameExclusion) (s peers : Span) (row : ℕ)
    → (within_gap exclusion s row peers).to ≤ (within_gap exclusion s row peers).from + 1
few_at CurrentRow s peers row = omega arith
few_at Group s peers row = omega arith
few_at Ties s peers row = omega arith
few_at NoOthers s peers row = omega arith

pub few_within : (p : Partition) (i : ℕ) → (within_span p i).to ≤ (within_span p i).from + 1
few_within p i = few_at p.frame.exclusion (frame_extent p i) (peer_span p i) i
