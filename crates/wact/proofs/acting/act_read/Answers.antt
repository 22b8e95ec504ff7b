use Rattle.wact.proofs.acting.act_read.Goals as goal

pub returns-in-Ok-clause-acts : goal.returns-in-Ok-clause-acts
returns-in-Ok-clause-acts c = rw c.in-Ok.is (rw c.hashed.ensures at c.act_by.ensures.acts)

pub returns-in-Ok-clause-lacks : goal.returns-in-Ok-clause-lacks
returns-in-Ok-clause-lacks c = rw c.in-Ok.is (rw c.hashed.ensures at c.act_by.ensures.lacks)
