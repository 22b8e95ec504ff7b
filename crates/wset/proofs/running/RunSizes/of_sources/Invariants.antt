use Rattle.std.proofs.Common.{◌≡◌, drop, map}
use Rattle.wset.specs.Running.{no_sizes, with_runs}
use Rattle.wset.proofs.running.RunSizes.of_sources.Given as goal

-- those so far, with those that are left
abbrev pub invariant-loop-source : goal.invariant-loop-source
invariant-loop-source l =
    with_runs l.sizes (map (λ source. source.run.now) (drop l.source-index l.sources))
    ≡ with_runs no_sizes (map (λ source. source.run.now) l.sources)
