use Rattle.std.proofs.Common.{rules, subst}
use Rattle.wact.specs.Acts.{ActsOn, Done, InSubcommand, MayLackOn, StoreRefused}
use Rattle.wact.proofs.Outcomes.{if_ok, on_err}
use Rattle.wact.proofs.acting.act_by.Goals as goal

pub returns-in-Ok-clause-acts : goal.returns-in-Ok-clause-acts
returns-in-Ok-clause-acts c =
    let same = c.in-Ok.ensures.declared in
    if_ok c.act_on.result (λ acted acts. Done c.in-Ok.node.view c.in-Ok.ensures.known
    (subst (λ d. ActsOn d c.in-Ok.node.view c.args.choice.now c.args.store.now c.args.other.now acted) same acts))
    c.act_on.ensures.does

pub returns-in-Ok-clause-lacks : goal.returns-in-Ok-clause-lacks
returns-in-Ok-clause-lacks c =
    let same = c.in-Ok.ensures.declared in
    on_err c.act_on.result (λ lack. InSubcommand c.in-Ok.node.view c.in-Ok.ensures.known
    (subst (λ d. MayLackOn d c.args.choice.now c.args.other.now) same lack)) c.act_on.ensures.lacks

pub returns-in_ok-refused_file-in-Err-clause-acts : goal.returns-in_ok-refused_file-in-Err-clause-acts
returns-in_ok-refused_file-in-Err-clause-acts c = StoreRefused c.in-Err.fault (search rules) c.in-Err.ensures.refused (search rules)
