use Rattle.std.proofs.Common.{subst, sym}
use Rattle.wstore.specs.Standing.{StandAt}
use Rattle.wstore.proofs.Handling.{on_ok_then, on_err_then}
use Rattle.wstore.proofs.Fed.{fed_as, fed_part_as}
use Rattle.wstore.proofs.cluster.Cluster.feed.Goals as goal

pub returns-clause-ok : goal.returns-clause-ok
returns-clause-ok g c = on_ok_then c.feed_node.result _ _
    (λ feeds d h told.
    fed_as d _ h c.place-place.result c.index_mut.result.now (subst (λ at. StandAt d at h) (sym c.self.view_is) told)
    c.place-place.ensures.in_range c.index_mut.ensures.value c.args.piece.now
    c.args.node c.feed_node.new.node _ _ c.place-place.ensures.place feeds)
    c.feed_node.ensures.ok

pub returns-clause-part : goal.returns-clause-part
returns-clause-part g c = on_err_then c.feed_node.result _ _
    (λ feeds d h told.
    fed_part_as d _ h c.place-place.result c.index_mut.result.now (subst (λ at. StandAt d at h) (sym c.self.view_is) told)
    c.place-place.ensures.in_range c.index_mut.ensures.value c.args.piece.now
    c.args.node _ _ c.place-place.ensures.place feeds)
    c.feed_node.ensures.part
