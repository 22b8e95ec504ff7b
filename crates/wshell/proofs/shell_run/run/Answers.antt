use Rattle.std.proofs.Common.{refl}
use Rattle.wshell.proofs.Running.{all_begun, all_replied, front_begun, nothing_begun, same_one, same_part, stands_first}
use Rattle.wshell.proofs.shell_run.run.Goals as goal

pub returns-in_default-clause-begun : goal.returns-in_default-clause-begun
returns-in_default-clause-begun g c = nothing_begun _ _ _ _ _

pub take_all-requires-clause-stands : goal.take_all-requires-clause-stands
take_all-requires-clause-stands g c = stands_first _ _ _ _ _ c.in-Ok.ensures refl refl

pub returns-in-Err-clause-begun : goal.returns-in-Err-clause-begun
returns-in-Err-clause-begun g c = front_begun _ _ _ _ _ _ c.in-Err.ensures.part

pub returns-in-Ok-reply_to-clause-replies : goal.returns-in-Ok-reply_to-clause-replies
returns-in-Ok-reply_to-clause-replies g c =
    all_replied _ _ _ _ _ _ _ _ _ c.reply_to.new.replied c.in_default-take_all.ensures.ok c.in_default-take_all.ensures.end
    (same_one _ _ _ _ _ _ _ c.take_all.ensures.same c.as_slice.ensures _ c.in-Ok-reply_to.ensures.ok)

pub returns-clause-begun : goal.returns-clause-begun
returns-clause-begun g c =
    all_begun _ _ _ _ _ _ _ _ _ _ c.in_default-take_all.ensures.ok c.in_default-take_all.ensures.end
    (same_part _ _ _ _ _ _ _ c.take_all.ensures.same c.as_slice.ensures _ c.in-Err-reply_to.ensures.part)
