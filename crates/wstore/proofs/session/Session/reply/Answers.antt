use Rattle.wstore.proofs.Telling.{finds_no_memory}
use Rattle.wstore.proofs.session.Session.reply.Goals as goal

pub returns-in-Err : goal.returns-in-Err
returns-in-Err c = λ h command order stands.
    finds_no_memory c.order.new.self h command (c.in-Err.ensures.lacks h command order stands) (c.in-Err.ensures.err h stands)
