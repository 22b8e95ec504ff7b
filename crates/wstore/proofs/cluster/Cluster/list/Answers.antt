use Rattle.std.proofs.Common.{◌-◌, ◌∙◌, ap}
use Rattle.wreplies.specs.Spelling.{names_text}
use Rattle.wstore.proofs.Answering.{listed_at}
use Rattle.wstore.proofs.cluster.Cluster.list.Goals as goal

pub returns : goal.returns
returns c = λ d h stand.
    listed_at d _ h c.args.node (c.args.node - 1) c.node.result.now stand c.node.ensures.place c.node.ensures.in_range c.node.ensures.node
    c.in_ok-all.all.items _ c.in_ok-all.ensures (c.in_ok-text.ensures ∙ ap names_text c.deref.ensures.value)
