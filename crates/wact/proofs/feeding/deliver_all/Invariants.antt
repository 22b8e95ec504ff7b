use Rattle.std.proofs.Common.{map, take}
use Rattle.wbatch.specs.Deliveries.{item_of}
use Rattle.wact.specs.Delivering.{Delivers}
use Rattle.wact.proofs.feeding.deliver_all.Given as goal

abbrev pub invariant-loop-delivery : goal.invariant-loop-delivery
invariant-loop-delivery l = Delivers (map item_of (take l.delivery-index l.deliveries)) l.initial.node l.node
    l.initial.text.items l.text.items
