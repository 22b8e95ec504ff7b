use Rattle.std.proofs.Common.{subst, sym}
use Rattle.wset.specs.Items.{RetirementItem}
use Rattle.wstore.specs.Standing.{StandAt}
use Rattle.wstore.proofs.Answering.{lacks_at, retired_at}
use Rattle.wstore.proofs.Orders.{if_refused}
use Rattle.wstore.proofs.cluster.Cluster.retire.Goals as goal

pub returns-clause-answers : goal.returns-clause-answers
returns-clause-answers c = λ d h origin number named told.
    retired_at d _ h c.args.node c.place-place.result c.index_mut.result.now
    (subst (λ at. StandAt d at h) (sym c.self.view_is) told) c.place-place.ensures.place c.place-place.ensures.in_range
    c.index_mut.ensures.value
    origin number c.args.name c.retire.new.self c.in_ok-word.word _ named c.in_ok-word.ensures.word c.in_ok-word.ensures.ok
    c.retired.ensures

pub returns-in_err-word-clause-lacks : goal.returns-in_err-word-clause-lacks
returns-in_err-word-clause-lacks c = if_refused c.from_residual.result _ (λ d h told.
    lacks_at d _ h c.args.node c.place-place.result c.index_mut.result.now
    (subst (λ at. StandAt d at h) (sym c.self.view_is) told) c.place-place.ensures.place c.place-place.ensures.in_range
    c.index_mut.ensures.value (RetirementItem c.args.name) c.in_err-word.ensures.lacks)
