use Rattle.std.proofs.Common.{rules, Ok, Err}
use Rattle.wvalues.specs.NameReading.{ReadsName}
use Rattle.wact.specs.Acts.{NameRefused, Named}
use Rattle.wact.proofs.Outcomes.{if_ok}
use Rattle.wact.proofs.acting.floor.Goals as goal

pub returns-in-Ok-clause-does : goal.returns-in-Ok-clause-does
returns-in-Ok-clause-does c =
    let reads : ReadsName c.args.origin.now c.args.number.now (Ok c.in-Ok.name) = search rules in
    if_ok c.retire_to.result (λ acted retires. Named c.in-Ok.name reads retires) c.retire_to.ensures

pub returns-in-Err-clause-does : goal.returns-in-Err-clause-does
returns-in-Err-clause-does c =
    let reads : ReadsName c.args.origin.now c.args.number.now (Err c.in-Err.fault) = search rules in
    NameRefused c.in-Err.fault reads c.bad_name.ensures
