use Rattle.wbatch.proofs.Filling.{ready_delivered}
use Rattle.wbatch.proofs.batch.Batch.deliveries.Goals as goal

pub returns-clause-delivered : goal.returns-clause-delivered
returns-clause-delivered c = rw (← c.self.view_is) (ready_delivered _ _ c.self.invariant.ready)

pub returns-clause-ready : goal.returns-clause-ready
returns-clause-ready c = rw (← c.self.view_is, c.as_slice.ensures.value) c.self.invariant.ready
