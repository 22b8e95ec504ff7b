use Rattle.std.proofs.Common.{◌≡◌, take}
use Rattle.wruns.specs.KeptRuns.{run_values}
use Rattle.wruns.proofs.kept_runs.shared_ring.Given as goal

-- those so far
abbrev pub invariant-loop-i : goal.invariant-loop-i
invariant-loop-i l = record {
  runs : run_values l.kept.items ≡ run_values (take l.i l.ring.items);
  room : l.kept.capacity ≡ 4;
}
