use Rattle.std.proofs.Common.{rules, Ok, Err}
use Rattle.wvalues.specs.NameReading.{ReadsName}
use Rattle.wact.specs.Acts.{NameRefused, Named}
use Rattle.wact.proofs.Outcomes.{if_ok, on_err}
use Rattle.wact.proofs.acting.take.Goals as goal

pub returns-in-Ok-clause-does : goal.returns-in-Ok-clause-does
returns-in-Ok-clause-does c =
    let reads : ReadsName c.args.origin.now c.args.number.now (Ok c.in-Ok.name) = search rules in
    if_ok c.take_under.result (λ acted takes. Named c.in-Ok.name reads takes) c.take_under.ensures.takes

pub returns-in-Ok-clause-lacks : goal.returns-in-Ok-clause-lacks
returns-in-Ok-clause-lacks c =
    let reads : ReadsName c.args.origin.now c.args.number.now (Ok c.in-Ok.name) = search rules in
    on_err c.take_under.result (λ short. ((c.in-Ok.name, reads), short)) c.take_under.ensures.lacks

pub returns-in-Err-clause-does : goal.returns-in-Err-clause-does
returns-in-Err-clause-does c =
    let reads : ReadsName c.args.origin.now c.args.number.now (Err c.in-Err.fault) = search rules in
    NameRefused c.in-Err.fault reads c.bad_name.ensures
