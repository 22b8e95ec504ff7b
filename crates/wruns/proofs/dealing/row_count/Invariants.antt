use Rattle.std.proofs.Common.{◌≡◌, ◌<◌, ◌^◌, length, take}
use Rattle.wruns.specs.Dealing.{segment_rows}
use Rattle.wruns.specs.Runs.{joined}
use Rattle.wruns.proofs.dealing.row_count.Given as goal

-- the rows so far
abbrev pub invariant-loop-segment : goal.invariant-loop-segment
invariant-loop-segment l = record {
  all : l.count ≡ length (joined (segment_rows (take l.segment-index l.segments)));
  few : l.count < 2 ^ 32;
}
