use Rattle.std.proofs.Common.{refl}
use Rattle.wstore.proofs.Learning.{learned}
use Rattle.wstore.proofs.node.Node.get_hashed.Goals as goal

pub returns-in-Ok-join-clause-ok : goal.returns-in-Ok-join-clause-ok
returns-in-Ok-join-clause-ok c =
    learned c.args.self.now c.self.inside.set c.in-Ok.set c.join.new.self c.self.inside.inbox.held
    c.self.inside.inbox.is_bad c.self.inside.set.schema c.args.bytes.now c.self.view_is refl c.in-Ok.ensures.view
    c.in-Ok-join.ensures.ok
