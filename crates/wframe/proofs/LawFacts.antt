-- The ends of frames rise.
use Rattle.std.proofs.Common.{ℕ, ◌≤◌, ◌<◌, length, not}
use Rattle.wvalues.specs.Order.{keys_cmp}
use Rattle.wframe.specs.Peers.{AreOrdered}
use Rattle.wframe.specs.Places.{IsRisen}
use Rattle.wframe.specs.Partition.{Partition}
use Rattle.wframe.specs.Frame.{is_before_start, is_after_end, frame_start, frame_end, frame_extent}
use Rattle.wframe.proofs.ModeFacts.{mode_start_cut, mode_end_cut}
use Rattle.wframe.proofs.FrameFacts.{count_rises, count_within, slid}

pub starts_rise : (p : Partition) (i k : ℕ) → AreOrdered (keys_cmp p.order) p.keys → i ≤ k → k < length p.keys
    → frame_start p i ≤ frame_start p k
starts_rise p i k ordered l h = count_rises (length p.keys) (is_before_start p.order p.keys p.frame.mode p.frame.start) i k
    (mode_start_cut p.order p.keys ordered p.frame.mode p.frame.start) l h

pub ends_rise : (p : Partition) (i k : ℕ) → AreOrdered (keys_cmp p.order) p.keys → i ≤ k → k < length p.keys → frame_end p i ≤ frame_end p k
ends_rise p i k ordered l h = count_rises (length p.keys)
    (λ i j. not (is_after_end p.order p.keys p.frame.mode p.frame.end i j)) i k (mode_end_cut p.order p.keys ordered
    p.frame.mode p.frame.end) l h

pub spans_rise : (p : Partition) (i k : ℕ) → AreOrdered (keys_cmp p.order) p.keys → i ≤ k → k < length p.keys
    → IsRisen (length p.keys) (frame_extent p i) (frame_extent p k)
spans_rise p i k ordered l h =
    let sn : frame_start p k ≤ length p.keys = count_within (length p.keys) (is_before_start p.order p.keys p.frame.mode p.frame.start k) in
    let en : frame_end p k ≤ length p.keys =
    count_within (length p.keys) (λ j. not (is_after_end p.order p.keys p.frame.mode p.frame.end k j)) in
    slid (frame_start p i) (frame_end p i) (frame_start p k) (frame_end p k) (length p.keys) (starts_rise p i k ordered l h)
    (ends_rise p i k ordered l h) sn en
