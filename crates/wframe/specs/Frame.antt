-- The rows of a frame, as a filter of its partition: <window frame clause>.
use Rattle.std.specs.Prelude.{ℕ, Bool, false, not, ◌&&◌, ◌==◌, List, length, filter, max}
use Rattle.wvalues.specs.declared.key.SortKey.{SortKey}
use Rattle.wvalues.specs.Meaning.{Meaning}
use Rattle.wvalues.specs.Order.{keys_cmp}
use Rattle.wframe.specs.declared.frame.FrameMode.{FrameMode}
use Rattle.wframe.specs.declared.frame.FrameMode.TheVariants.{Rows, Range, Groups}
use Rattle.wframe.specs.declared.frame.FrameBound.{FrameBound}
use Rattle.wframe.specs.declared.frame.FrameExclusion.{FrameExclusion}
use Rattle.wframe.specs.declared.frame.FrameExclusion.TheVariants.{CurrentRow, Group, Ties, NoOthers}
use Rattle.wframe.specs.declared.frame.Span.{Span}
use Rattle.wframe.specs.Places.{places}
use Rattle.wframe.specs.Peers.{key_at, are_peers, group_number}
use Rattle.wframe.specs.Bounds.{starts_after, ends_before, key_starts_after, key_ends_before}
use Rattle.wframe.specs.Partition.{Partition}

-- whether row j lies before the start of row i's frame: ROWS counts rows, RANGE compares keys, GROUPS counts peer groups
abbrev pub is_before_start : List SortKey → List (List Meaning) → FrameMode → FrameBound → ℕ → ℕ → Bool
is_before_start ks keys Rows bound i j = starts_after bound i j
is_before_start ks keys Range bound i j = key_starts_after ks bound (key_at keys i) (key_at keys j)
is_before_start ks keys Groups bound i j = starts_after bound (group_number (keys_cmp ks) keys i) (group_number (keys_cmp ks) keys j)

-- whether row j lies after the end of row i's frame
abbrev pub is_after_end : List SortKey → List (List Meaning) → FrameMode → FrameBound → ℕ → ℕ → Bool
is_after_end ks keys Rows bound i j = ends_before bound i j
is_after_end ks keys Range bound i j = key_ends_before ks bound (key_at keys i) (key_at keys j)
is_after_end ks keys Groups bound i j = ends_before bound (group_number (keys_cmp ks) keys i) (group_number (keys_cmp ks) keys j)

-- whether row j is in the extent of row i's frame: it lies neither before its start nor after its end
abbrev pub is_in_extent : Partition → ℕ → ℕ → Bool
is_in_extent p i j = not (is_before_start p.order p.keys p.frame.mode p.frame.start i j)
    && not (is_after_end p.order p.keys p.frame.mode p.frame.end i j)

-- whether the exclusion takes row j, which may be a peer, out of row i's frame
abbrev pub is_excluded : FrameExclusion → ℕ → ℕ → Bool → Bool
is_excluded CurrentRow i j peer = j == i
is_excluded Group i j peer = peer
is_excluded Ties i j peer = peer && not (j == i)
is_excluded NoOthers i j peer = false

-- whether row j is in row i's frame
abbrev pub is_kept : Partition → ℕ → ℕ → Bool
is_kept p i j = is_in_extent p i j && not (is_excluded p.frame.exclusion i j (are_peers (keys_cmp p.order) p.keys i j))

-- the rows of a row's frame
abbrev pub frame_rows : Partition → ℕ → List ℕ
frame_rows p i = filter (is_kept p i) (places (length p.keys))

-- how many rows lie before the start of a row's frame
abbrev pub frame_start : Partition → ℕ → ℕ
frame_start p i = length (filter (is_before_start p.order p.keys p.frame.mode p.frame.start i) (places (length p.keys)))

-- how many rows do not lie after the end of a row's frame
abbrev pub frame_end : Partition → ℕ → ℕ
frame_end p i = length (filter (λ j. not (is_after_end p.order p.keys p.frame.mode p.frame.end i j)) (places (length p.keys)))

-- the extent of a row's frame: the span from its start to its end, excluded rows too
abbrev pub frame_extent : Partition → ℕ → Span
frame_extent p i = record { from = frame_start p i; to = max (frame_start p i) (frame_end p i) }
