use Rattle.wbatch.proofs.Filling.{behind_all}
use Rattle.wbatch.proofs.batch.add_whole.Goals as goal

pub returns-in-Err-clause-front : goal.returns-in-Err-clause-front
returns-in-Err-clause-front c = behind_all c.args.schema.now c.args.deliveries.now.items c.messages.deliveries.items
    c.add_next.new.deliveries.items c.args.inbox.now.held c.messages.inbox.held c.in-Err.reason c.messages.invariant.same
    c.in-Err.ensures.left c.in-Err.ensures.next
