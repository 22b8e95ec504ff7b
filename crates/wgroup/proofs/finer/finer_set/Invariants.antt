use Rattle.std.proofs.Common.{◌≡◌, ◌<◌, true, get_or, length}
use Rattle.std.specs.Prelude.{IfSome}
use Rattle.wgroup.specs.declared.found.Groups as memory
use Rattle.wgroup.specs.Finer.{is_finer}
use Rattle.wgroup.proofs.finer.finer_set.Given as goal

abbrev pub invariant-loop-place : goal.invariant-loop-place
invariant-loop-place l = record {
  within : IfSome l.best (λ place. place < length l.found);
  finer : (d : memory.Groups) → IfSome l.best (λ place. is_finer l.set (get_or l.found place d) ≡ true);
}
