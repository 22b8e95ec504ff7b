use Rattle.std.proofs.Common.{◌≡◌, drop, map}
use Rattle.wset.specs.Running.{no_sizes, with_runs}
use Rattle.wset.proofs.running.RunSizes.of_runs.Given as goal

-- those so far, with those that are left
abbrev pub invariant-loop-run : goal.invariant-loop-run
invariant-loop-run l =
    with_runs l.sizes (map (λ run. run.value) (drop l.run-index l.runs))
    ≡ with_runs no_sizes (map (λ run. run.value) l.runs)
