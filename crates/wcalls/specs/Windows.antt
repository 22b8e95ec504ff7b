-- Windows over numbered rows (<window clause>).
use Rattle.std.specs.Prelude.{ℕ, List, map, filter, length, ◌==◌, slice_index_or, Result, Ok}
use Rattle.std.specs.List.{position_or_len}
use Rattle.std.specs.Ordering.{on}
use Rattle.wvalues.specs.declared.key.SortKey.{SortKey}
use Rattle.wvalues.specs.Meaning.{Meaning}
use Rattle.wvalues.specs.Order.{keys_cmp}
use Rattle.wframe.specs.declared.frame.Frame.{Frame}
use Rattle.wframe.specs.Peers.{key_at, are_peers}
use Rattle.wframe.specs.Places.{places}
use Rattle.wframe.specs.Partition.{Partition}
use Rattle.wframe.specs.Frame.{frame_rows}
use Rattle.wplan.specs.Plans.{WindowPlan}
use Rattle.wrows.specs.declared.fault.AnswerFault.{AnswerFault}
use Rattle.wrows.specs.Outcomes.{◌>>=◌}
use Rattle.wframe.specs.Sorting.{sorted}
use Rattle.wrows.specs.Sorting.{ascending}
use Rattle.wrows.specs.Columns.{Row, lists_of}
use Rattle.wcalls.specs.Frames as frames

-- a window on some rows: the partition values and the keys of each
pub record Windowed : Type 0 where
  pub values : List (List Meaning)
  pub value_order : List SortKey
  pub keys : List (List Meaning)
  pub order : List SortKey
  pub frame : Frame

-- all entries and keys are evaluated on every row
abbrev pub windowed : List Row → WindowPlan → Result Windowed AnswerFault
windowed rows w = do
  values ← lists_of w.partition rows
  keys ← lists_of (map (λ k. k.value) w.keys) rows
  Ok (record {
    values = values;
    value_order = ascending w.partition;
    keys = keys;
    order = map (λ k. k.order) w.keys;
    frame =
        frames.frame_of w.frame;
  })

-- the rows that agree with a row on all partition values, by the window's keys and then by number
abbrev pub partition_rows : Windowed → ℕ → List ℕ
partition_rows w i = sorted (on (key_at w.keys) (keys_cmp w.order)) (filter (are_peers (keys_cmp w.value_order) w.values i)
    (places (length w.values)))

-- the partition that a row stands in
abbrev pub partition_at : Windowed → ℕ → Partition
partition_at w i = record { order = w.order; keys = map (key_at w.keys) (partition_rows w i); frame = w.frame }

-- a row's place in its partition
abbrev pub place_at : Windowed → ℕ → ℕ
place_at w i = position_or_len (λ j. j == i) (partition_rows w i)

-- the row at a place of a row's partition
abbrev pub row_at : Windowed → ℕ → ℕ → ℕ
row_at w i place = slice_index_or (partition_rows w i) place 0

-- the rows of a row's frame
abbrev pub frame_of : Windowed → ℕ → List ℕ
frame_of w i = map (row_at w i) (frame_rows (partition_at w i) (place_at w i))
