-- Rows in the order of a window, and what a call answers for them there.
use Rattle.std.specs.Prelude.{◌≡◌, ℕ, List, map, length, Option, Result, unwrap_or, option_map, slice_index_or, All}
use Rattle.std.specs.Ordering.{on, then_cmp}
use Rattle.std.specs.declared.cmp.Ordering.{Ordering}
use Rattle.wvalues.specs.Meaning.{Meaning}
use Rattle.wvalues.specs.Order.{keys_cmp}
use Rattle.wframe.specs.Peers.{key_at}
use Rattle.wframe.specs.Places.{places, Tiles}
use Rattle.wframe.specs.Partition.{Partition, Partitioned}
use Rattle.wframe.specs.Partitions.{IsPartition}
use Rattle.wrows.specs.declared.fault.AnswerFault.{AnswerFault}
use Rattle.wrows.specs.Columns.{in_range, value_at}
use Rattle.wframe.specs.Sorting.{sorted}
use Rattle.wcalls.specs.Windows.{Windowed, partition_rows, partition_at, place_at}
use Rattle.wcalls.specs.Calls.{each_row}

-- by partition values, and then by keys
abbrev pub window_cmp : Windowed → ℕ → ℕ → Ordering
window_cmp w = then_cmp (on (key_at w.values) (keys_cmp w.value_order)) (on (key_at w.keys) (keys_cmp w.order))

-- all rows of a window in its order, and its partitions
pub record IsArranged (w : Windowed) (rows : List ℕ) (all : Partitioned) : Type 0 where
  pub sorted : rows ≡ sorted (window_cmp w) (places (length w.values))
  pub keys : all.keys ≡ map (key_at w.keys) rows
  pub order : all.order ≡ w.order
  pub frame : all.frame ≡ w.frame
  pub tiles : Tiles 0 all.spans (length all.keys)
  pub each : All (IsPartition (keys_cmp w.value_order) (map (key_at w.values) rows)) all.spans

-- what a call answers for the row at a place of a partition, of which the rows are given by number; none where it is out of range
abbrev pub Answer : Type 0
Answer = Partition → List ℕ → ℕ → Option Meaning

-- its answer for the row of a number
abbrev pub answer_on : Windowed → Answer → ℕ → Option Meaning
answer_on w answer i = answer (partition_at w i) (partition_rows w i) (place_at w i)

-- its answers for all rows, by number
abbrev pub answered : Windowed → Answer → Result (List Meaning) AnswerFault
answered w answer = in_range (each_row w (answer_on w answer))

-- the value of the row at a place of a partition, or a default
abbrev pub value_read : List Meaning → List ℕ → Meaning → Option ℕ → Meaning
value_read values rows default place = unwrap_or (option_map (λ j. value_at values (slice_index_or rows j 0)) place) default
