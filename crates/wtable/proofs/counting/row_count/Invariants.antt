use Rattle.std.proofs.Common.{◌≡◌, ◌+◌, ◌-◌, ◌^◌, ◌≤◌, length, min}
use Rattle.wtable.specs.Tables.{rows_of_set}
use Rattle.wtable.proofs.HeldFacts.{rows_left}
use Rattle.wtable.proofs.counting.row_count.Given as goal

-- the rows so far and those of the segments that are left are as many as all
abbrev pub invariant-segments : goal.invariant-segments
invariant-segments l = record {
  all : min (l.count + length (rows_left l.segment-iterator)) (2 ^ 64 - 1) ≡ min (length (rows_of_set l.set)) (2 ^ 64 - 1);
  small : l.count ≤ 2 ^ 64 - 1;
}
