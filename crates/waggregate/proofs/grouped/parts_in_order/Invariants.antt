use Rattle.std.proofs.Common.{◌≡◌, get_or, map, take}
use Rattle.waggregate.proofs.grouped.parts_in_order.Given as goal

abbrev pub invariant-loop-group : goal.invariant-loop-group
invariant-loop-group g l = (d : g.row.P.Denot) → l.ordered.items ≡ map (λ k. get_or l.parts k d) (take l.group-index l.order)
