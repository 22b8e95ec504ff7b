use Rattle.wact.proofs.Delivering.{delivers_next}
use Rattle.wact.proofs.feeding.deliver_all.Goals as goal

pub loop-delivery-preserved : goal.loop-delivery-preserved
loop-delivery-preserved c =
    delivers_next c.args.deliveries.now c.loop-delivery.delivery-index c.delivery-item.result _ _ _ _ _ _
    c.loop-delivery-test.true c.delivery-item.is c.loop-delivery.invariant c.in_ok-deliver_next.ensures
