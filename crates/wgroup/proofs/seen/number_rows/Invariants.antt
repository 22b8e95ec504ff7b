use Rattle.std.proofs.Common.{◌≡◌, ◌≤◌, ◌*◌, length}
use Rattle.wgroup.specs.Sight.{group_numbers}
use Rattle.wgroup.specs.Table.{Holds, alike}
use Rattle.wgroup.proofs.seen.number_rows.Given as goal

abbrev pub invariant-loop-row : goal.invariant-loop-row
invariant-loop-row l = record {
  held : Holds l.keyed l.row l.table;
  numbered : l.numbers.items ≡ group_numbers (alike l.keyed) l.row;
  few : length l.table.firsts.items ≤ l.most;
  looks : l.table.looks ≤ length l.keyed.rows.now * 8;
}
