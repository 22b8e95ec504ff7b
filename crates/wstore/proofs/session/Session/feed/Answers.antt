use Rattle.std.proofs.Common.{Some, subst}
use Rattle.wstore.specs.Sessions.{ClusterStands}
use Rattle.wstore.proofs.Handling.{on_ok_then, on_err_then}
use Rattle.wstore.proofs.session.Session.feed.Goals as goal

pub returns-clause-ok : goal.returns-clause-ok
returns-clause-ok g c = on_ok_then c.feed.result _ _
    (λ fed h stands.
    let s : ClusterStands (Some c.in-Some.cluster) h = subst (λ o. ClusterStands o h) c.in-Some.is stands in
    let a = fed s.0 h s.1 in
    record { reply = a.reply; answers = a.answers; appends = a.appends; stands = (s.0, a.stand) })
    c.feed.ensures.ok

pub returns-clause-part : goal.returns-clause-part
returns-clause-part g c = on_err_then c.feed.result _ _
    (λ fed h stands.
    let s : ClusterStands (Some c.in-Some.cluster) h = subst (λ o. ClusterStands o h) c.in-Some.is stands in
    fed s.0 h s.1)
    c.feed.ensures.part
