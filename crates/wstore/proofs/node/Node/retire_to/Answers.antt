use Rattle.wset.specs.Views.{join}
use Rattle.wset.specs.Items.{FloorItem, view_of_item}
use Rattle.wstore.proofs.Learning.{knows_now}
use Rattle.wstore.proofs.node.Node.retire_to.Goals as goal

pub returns-clause-ok : goal.returns-clause-ok
returns-clause-ok c =
    knows_now c.retire_to.result c.args.self.now c.self.inside.set c.retire_to.new.self c.self.inside.inbox.held
    c.self.inside.inbox.is_bad (λ v. join v (view_of_item (FloorItem c.args.name))) c.self.view_is c.retire_to.ensures.ok
