use Rattle.std.proofs.Common.{◌<◌, ◌≤◌, ◌-◌, length}
use Rattle.std.specs.Prelude.{All}
use Rattle.wvalues.specs.Order.{keys_cmp}
use Rattle.wframe.specs.KeyRows.{key_lists, sort_keys}
use Rattle.wframe.specs.Peers.{is_before}
use Rattle.wframe.specs.Cuts.{CutsAt}
use Rattle.wframe.specs.Places.{Tiles}
use Rattle.wframe.specs.Partitions.{IsPartition}
use Rattle.wframe.proofs.partitions.partition_spans.Given as goal

abbrev pub invariant-loop-from : goal.invariant-loop-from
invariant-loop-from l =
    let cmp = keys_cmp (sort_keys l.partition_values) in
    let keys = key_lists l.partition_values in
    record {
      within : l.from ≤ length keys;
      before : l.from < length keys → CutsAt (length keys) (is_before cmp keys l.from) l.from;
      tiles : Tiles 0 l.spans.items l.from;
      each : All (IsPartition cmp keys) l.spans.items;
    }

abbrev pub decreases-loop-from : goal.decreases-loop-from
decreases-loop-from l = length (key_lists l.partition_values) - l.from
