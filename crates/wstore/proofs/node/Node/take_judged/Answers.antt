use Rattle.wset.specs.Views.{join}
use Rattle.wset.specs.Items.{SegmentItem, view_of_item}
use Rattle.wstore.proofs.Learning.{knows_now}
use Rattle.wstore.proofs.node.Node.take_judged.Goals as goal

pub returns-clause-ok : goal.returns-clause-ok
returns-clause-ok c =
    knows_now c.take_judged.result c.args.self.now c.self.inside.set c.take_judged.new.self c.self.inside.inbox.held
    c.self.inside.inbox.is_bad (λ v. join v (view_of_item (SegmentItem c.args.name c.args.judged.now.value.bytes)))
    c.self.view_is c.take_judged.ensures.ok
