use Rattle.std.proofs.Common.{◌≡◌, false, take}
use Rattle.std.specs.List.{list_any}
use Rattle.wgroup.specs.Table.{is_of_group}
use Rattle.wgroup.proofs.group_slots.group_among.Given as goal

abbrev pub invariant-loop-number : goal.invariant-loop-number
invariant-loop-number l = list_any (is_of_group l.keyed l.table.firsts.items l.row) (take l.number-index l.numbers) ≡ false
