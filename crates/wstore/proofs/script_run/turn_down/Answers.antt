use Rattle.wstore.proofs.Writing.{answered, answered_part, unanswered}
use Rattle.wstore.proofs.script_run.turn_down.Goals as goal

pub returns-clause-ok : goal.returns-clause-ok
returns-clause-ok g c = λ session h command refused allowed stands.
    answered session h command c.refuse.result.now _ _ (c.refuse.ensures session h command refused allowed stands) c.in_default.ensures.ok

pub returns-in-Err-clause-part : goal.returns-in-Err-clause-part
returns-in-Err-clause-part g c = λ session h command refused allowed stands.
    let front = c.in-Err.ensures.front in
    unanswered c.in-Err.fault h command _ _ c.in-Err.ensures.fault
    (answered_part session h command c.refuse.result.now _ _ (c.refuse.ensures session h command refused allowed stands) front.0 front.1)
