use Rattle.std.proofs.Common.{drop}
use Rattle.std.specs.List.{IsAmong}
use Rattle.wruns.specs.KeptRuns.{keys_kept}
use Rattle.wruns.proofs.kept_runs.find_in.Given as goal

-- if one is by the keys, one of those that are left is
abbrev pub invariant-loop-i : goal.invariant-loop-i
invariant-loop-i l = IsAmong (keys_kept l.runs.items) l.keys → IsAmong (keys_kept (drop l.i l.runs.items)) l.keys
