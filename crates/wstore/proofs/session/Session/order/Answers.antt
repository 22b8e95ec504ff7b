use Rattle.std.proofs.Common.{Some, subst}
use Rattle.wstore.specs.Sessions.{ClusterStands}
use Rattle.wstore.proofs.Orders.{if_refused}
use Rattle.wstore.proofs.Writing.{order_may_lack}
use Rattle.wstore.proofs.session.Session.order.Goals as goal

pub returns-clause-replies : goal.returns-clause-replies
returns-clause-replies c = λ h command order stands.
    let s : ClusterStands (Some c.in-Some.cluster) h = subst (λ o. ClusterStands o h) c.in-Some.is stands in
    let a = c.in_ok-text.ensures.answers s.0 h command order s.1 in
    record { reply = a.reply; answers = a.answers; text_is = a.text_is; stands = (s.0, a.stand) }

pub returns-in_err-text-clause-lacks : goal.returns-in_err-text-clause-lacks
returns-in_err-text-clause-lacks c = if_refused c.from_residual.result _ (λ h command order stands.
    let s : ClusterStands (Some c.in-Some.cluster) h = subst (λ o. ClusterStands o h) c.in-Some.is stands in
    order_may_lack c.args.node c.args.order.now h command order (λ slot is. c.in_err-text.ensures.lacks slot s.0 h is s.1)
    (λ name is. c.in_err-text.ensures.retires name s.0 h is s.1) (λ name is. c.in_err-text.ensures.rises name s.0 h is s.1))
