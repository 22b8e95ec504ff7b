use Rattle.std.proofs.Common.{◌≡◌, ◌+◌, ◌++◌, map, drop, length}
use Rattle.std.specs.List.{flat_map}
use Rattle.wvalues.specs.Meaning.{meaning}
use Rattle.wgroup.specs.Held.{all_groups, columns_in}
use Rattle.wgroup.proofs.TellFacts.{sets_rows}
use Rattle.wgroup.proofs.having.group_cells.Given as goal

abbrev pub invariant-loop-groups : goal.invariant-loop-groups
invariant-loop-groups l = record {
  so_far : flat_map (λ row. row) (sets_rows (columns_in l.columns) 0 l.sets) ≡ map meaning l.cells.items ++ flat_map
      (λ row. row) (sets_rows (columns_in l.columns) l.count (drop l.groups-index l.sets));
  count : l.count + length (all_groups (drop l.groups-index l.sets)) ≡ length (all_groups l.sets);
}
