use Rattle.std.proofs.Common.{◌≡◌, ◌^◌, min, take}
use Rattle.wgroupby.specs.Sets.{grouping_of}
use Rattle.wgroup.proofs.call_columns.grouping_number.Given as goal

abbrev pub invariant-loop-column : goal.invariant-loop-column
invariant-loop-column l = l.number ≡ min (2 ^ 95) (grouping_of l.set (take l.column-index l.columns))
