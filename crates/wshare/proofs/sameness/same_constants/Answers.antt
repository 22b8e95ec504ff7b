use Rattle.std.proofs.Common.{sym, ◌∙◌}
use Rattle.wshare.proofs.Alike.{constants_alike, constants_same}
use Rattle.wshare.proofs.sameness.same_constants.Goals as goal

pub returns-clause-exact : goal.returns-clause-exact
returns-clause-exact c = constants_same c.values.result.now c.values-2.result.now c.args.others.now c.args.list.now c.eq.result
    c.values.ensures c.values-2.ensures c.eq.ensures

pub returns-clause-alike : goal.returns-clause-alike
returns-clause-alike c = λ h. constants_alike c.args.others.now c.args.list.now
    (sym (constants_same c.values.result.now c.values-2.result.now c.args.others.now c.args.list.now c.eq.result
    c.values.ensures c.values-2.ensures c.eq.ensures) ∙ h)
