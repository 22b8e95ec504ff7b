use Rattle.wfolder.proofs.Steps.{permitted, unpermitted}
use Rattle.wfolder.proofs.replacing.allow.Goals as goal

pub returns-in-Some-clause-given : goal.returns-in-Some-clause-given
returns-in-Some-clause-given g c = permitted c.args.target.now c.permit.result c.in-Some.ensures c.permit.ensures.calls

pub returns-in-Some-clause-left : goal.returns-in-Some-clause-left
returns-in-Some-clause-left g c = unpermitted c.args.target.now c.permit.result c.permit.ensures.kind c.in-Some.ensures
    c.permit.ensures.calls
