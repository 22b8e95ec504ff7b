use Rattle.wplan.specs.Plans.{key_plan}
use Rattle.wcalls.proofs.Listed.{listed_more, listed_all, listed_long}
use Rattle.wcalls.proofs.parts.key_orders.Goals as goal

pub loop-key-preserved : goal.loop-key-preserved
loop-key-preserved c =
    listed_more key_plan (λ o. o.order) c.args.keys.now c.loop-key.key-index c.key-item.result _ _ c.loop-key-test.true
    c.key-item.is c.loop-key.invariant c.in_ok-push.ensures.items

pub returns-clause-orders : goal.returns-clause-orders
returns-clause-orders c = listed_all key_plan (λ o. o.order) c.args.keys.now c.loop-key.key-index _ c.loop-key-test.false
    c.loop-key.invariant

pub returns-clause-len : goal.returns-clause-len
returns-clause-len c = listed_long key_plan (λ o. o.order) c.args.keys.now _ (returns-clause-orders c)
