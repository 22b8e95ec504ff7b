use Rattle.std.proofs.Common.{refl, ◌∙◌, subst, sym}
use Rattle.wstore.specs.Standing.{StandAt}
use Rattle.wstore.proofs.Answering.{put_at}
use Rattle.wstore.proofs.cluster.Cluster.put.Goals as goal

pub returns-clause-answers : goal.returns-clause-answers
returns-clause-answers c = λ d h told.
    put_at d _ h c.args.node c.place-from.result c.index.result.now (subst (λ at. StandAt d at h) (sym c.self.view_is) told)
    c.place-from.ensures.place c.place-from.ensures.in_range c.index.ensures
    c.args.slot c.place-to.result c.new.result _ c.place-to.ensures.place c.place-to.ensures.in_range (c.new.ensures
    ∙ c.in_ok-bytes.ensures) refl
