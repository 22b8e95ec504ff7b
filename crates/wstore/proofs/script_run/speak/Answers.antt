use Rattle.wreplies.specs.Texts.{bytes_of}
use Rattle.wstore.proofs.Writing.{answered, answered_part, unanswered}
use Rattle.wstore.proofs.script_run.speak.Goals as goal

pub returns-clause-ok : goal.returns-clause-ok
returns-clause-ok g c = λ h command order stands.
    answered c.reply-text.new.self h command (bytes_of c.reply-text.result) _ _ (c.reply-text.ensures h command order
    stands) (rw c.as_slice.ensures at c.in_default.ensures.ok)

pub returns-in-Err-clause-part : goal.returns-in-Err-clause-part
returns-in-Err-clause-part g c = λ h command order stands.
    let front = c.in-Err.ensures.front in
    unanswered c.in-Err.fault h command _ _ c.in-Err.ensures.fault
    (answered_part c.reply-text.new.self h command (bytes_of c.reply-text.result) _ _ (c.reply-text.ensures h command order
    stands) front.0 (rw c.as_slice.ensures at front.1))
