use Rattle.std.proofs.Common.{◌⊎◌, subst}
use Rattle.wlines.specs.Sent.{sent}
use Rattle.wstore.specs.Steps.{Answered, AnsweredPart, AnsweredLines}
use Rattle.wstore.proofs.Writing.{fed_command, unanswered_feed}
use Rattle.wstore.proofs.script_run.feed.Goals as goal

pub returns-clause-ok : goal.returns-clause-ok
returns-clause-ok g c = λ h command is stands.
    let old = sent g.W.Write.contents c.args.outbox.now c.args.output.now in
    let new = sent g.W.Write.contents c.feed.new.outbox c.feed.new.output in
    subst (λ q. Answered c.feed.new.self h q old new) (fed_command c.args.node c.args.piece.now command is)
    (c.in_default.ensures.ok h stands)

pub returns-in-Err-clause-part : goal.returns-in-Err-clause-part
returns-in-Err-clause-part g c = λ h command is stands.
    let old = sent g.W.Write.contents c.args.outbox.now c.args.output.now in
    let new = sent g.W.Write.contents c.feed.new.outbox c.feed.new.output in
    unanswered_feed c.in-Err.fault h command old new c.in-Err.ensures.fault
    (subst (λ q. AnsweredPart h q old new ⊎ AnsweredLines h q old new) (fed_command c.args.node c.args.piece.now command is)
    (c.in-Err.ensures.part h stands))
