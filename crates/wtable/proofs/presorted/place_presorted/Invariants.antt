use Rattle.std.proofs.Common.{◌≡◌, drop}
use Rattle.std.specs.List.{list_any}
use Rattle.wtable.specs.TableOrders.{presorts}
use Rattle.wtable.proofs.presorted.place_presorted.Given as goal

-- none of those before it
abbrev pub invariant-loop-place : goal.invariant-loop-place
invariant-loop-place l = list_any (presorts l.window) l.presorted ≡ list_any (presorts l.window) (drop l.place l.presorted)
