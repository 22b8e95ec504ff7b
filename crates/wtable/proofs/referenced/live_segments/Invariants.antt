use Rattle.std.proofs.Common.{◌≡◌, ◌++◌, map}
use Rattle.wset.specs.Running.{live_rows}
use Rattle.wtable.proofs.referenced.live_segments.Given as goal

-- the segments so far, with those that are left, are all
abbrev pub invariant-live : goal.invariant-live
invariant-live l = l.segments.items ++ map (λ e. e.1.rows) l.kept-iterator ≡ live_rows l.set
