use Rattle.wbatch.proofs.Filling.{next_is, next_stops}
use Rattle.wbatch.proofs.batch.add_next.Goals as goal

pub returns-in-Err-clause-stops : goal.returns-in-Err-clause-stops
returns-in-Err-clause-stops c = next_stops c.args.schema.now c.args.deliveries.now.items c.args.inbox.now
    c.next_delivery.new.inbox c.in-Err.reason c.requires.ready c.requires.good c.in-Err.ensures

pub returns-in-Err-clause-next : goal.returns-in-Err-clause-next
returns-in-Err-clause-next c = next_is c.args.schema.now c.args.inbox.now c.next_delivery.new.inbox c.in-Err.reason
    c.requires.good c.in-Err.ensures
