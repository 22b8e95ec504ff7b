use Rattle.std.proofs.Common.{◌≡◌, ◌+◌, map, drop, length}
use Rattle.std.specs.List.{flat_map}
use Rattle.wvalues.specs.Meaning.{meaning}
use Rattle.wrows.specs.Columns.{in_range}
use Rattle.wgroup.specs.Held.{all_groups, set_grouping}
use Rattle.wgroup.proofs.ColumnFacts.{answers_behind}
use Rattle.wgroup.proofs.call_columns.grouping_column.Given as goal

abbrev pub invariant-loop-groups : goal.invariant-loop-groups
invariant-loop-groups l = record {
  so_far : in_range (flat_map (set_grouping l.columns) l.sets) ≡ answers_behind (set_grouping l.columns)
      (map meaning l.column.items) (drop l.groups-index l.sets);
  len : length l.column.items + length (all_groups (drop l.groups-index l.sets)) ≡ length (all_groups l.sets);
}
