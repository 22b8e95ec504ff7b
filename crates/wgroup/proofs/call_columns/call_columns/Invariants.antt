use Rattle.std.proofs.Common.{◌≡◌, map, drop, length, All}
use Rattle.std.specs.Option.{ForSome}
use Rattle.wrows.specs.Outcomes.{each}
use Rattle.wrows.specs.Laid.{rows_seen}
use Rattle.wgroup.specs.Held.{all_groups, column_over, columns_in}
use Rattle.wgroup.specs.Shared.{IsShared}
use Rattle.wplan.specs.Plans.{group_call_plan}
use Rattle.wgroup.proofs.ColumnFacts.{each_behind}
use Rattle.wgroup.proofs.call_columns.call_columns.Given as goal

abbrev pub invariant-loop-call : goal.invariant-loop-call
invariant-loop-call l = record {
  so_far : each (column_over (rows_seen l.rows) l.sets) (map group_call_plan l.calls)
      ≡ each_behind (column_over (rows_seen l.rows) l.sets) (columns_in l.columns.items) (map group_call_plan (drop l.call-index l.calls));
  len : All (λ column. length column.items ≡ length (all_groups l.sets)) l.columns.items;
  count : length l.columns.items ≡ l.call-index;
  shared : ForSome l.shared (IsShared l.rows l.sets);
}
