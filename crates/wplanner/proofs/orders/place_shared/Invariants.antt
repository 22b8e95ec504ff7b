use Rattle.std.proofs.Common.{◌≡◌, drop}
use Rattle.std.specs.List.{list_any}
use Rattle.wplanner.specs.KeptOrders.{serves}
use Rattle.wplanner.proofs.orders.place_shared.Given as goal

-- none of those before it
abbrev pub invariant-loop-place : goal.invariant-loop-place
invariant-loop-place l = list_any (serves l.window) l.kept ≡ list_any (serves l.window) (drop l.place l.kept)
