-- The folds of the frames of partitions, and how many joins they may take.
use Rattle.std.specs.Prelude.{ℕ, ◌+◌, ◌-◌, ◌*◌, List, length, map}
use Rattle.std.specs.List.{flat_map}
use Rattle.wframe.specs.declared.frame.FrameExclusion.{FrameExclusion}
use Rattle.wframe.specs.declared.frame.FrameExclusion.TheVariants.{CurrentRow, Group, Ties, NoOthers}
use Rattle.wframe.specs.Places.{places}
use Rattle.wframe.specs.declared.frame.Span.{Span}
use Rattle.wframe.specs.Partition.{Partition, Partitioned, partition_of}
use Rattle.wframe.specs.Frame.{frame_rows}
use Rattle.wslide.specs.Laws.{rows_fold}
use Rattle.wslide.specs.Height.{height}

-- for each row of a partition, in order, the fold of its frame's rows
abbrev pub folds_of_frames : {P : Type 0} → P → (P → P → P) → (ℕ → P) → Partition → List P
folds_of_frames neutral joined part_at p = map (λ row. rows_fold neutral joined part_at (frame_rows p row)) (places (length p.keys))

-- for each row of the partitions of some spans, in order, the fold of its frame's rows. The fold counts its rows from a place on
abbrev pub folds_of_spans : {P : Type 0} → P → (P → P → P) → (ℕ → P) → Partitioned → ℕ → List Span → List P
folds_of_spans neutral joined part_at all first spans =
    flat_map (λ s. folds_of_frames neutral joined (λ row. part_at (s.from - first + row)) (partition_of all s)) spans

-- the most joins of the frames of so many rows: three a row where the frames are single spans, else those of a tree over the rows
abbrev pub most_by_queue : ℕ → ℕ
most_by_queue rows = 3 * rows

abbrev pub most_by_tree : ℕ → ℕ
most_by_tree rows = rows * (6 * height rows + 16)

-- by two queues, with one row at most between them: twice those of one; for each frame one for that row, and one for what both
-- queues come to
abbrev pub most_by_two_queues : ℕ → ℕ
most_by_two_queues rows = 8 * rows

-- a frame is a single span where the exclusion leaves no row out
abbrev pub most : FrameExclusion → ℕ → ℕ
most NoOthers rows = most_by_queue rows
most CurrentRow rows = most_by_tree rows
most Group rows = most_by_tree rows
most Ties rows = most_by_tree rows

-- by one queue where the exclusion leaves no row out, else by two
abbrev pub most_by_queues : FrameExclusion → ℕ → ℕ
most_by_queues NoOthers rows = most_by_queue rows
most_by_queues CurrentRow rows = most_by_two_queues rows
most_by_queues Group rows = most_by_two_queues rows
most_by_queues Ties rows = most_by_two_queues rows
