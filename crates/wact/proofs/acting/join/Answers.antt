use Rattle.std.proofs.Common.{rules, ap}
use Rattle.wact.specs.Acts.{Joined, OtherRefused}
use Rattle.wact.proofs.Outcomes.{if_ok, stored_as}
use Rattle.wact.proofs.acting.join.Goals as goal

pub returns-in-Ok-clause-does : goal.returns-in-Ok-clause-does
returns-in-Ok-clause-does c =
    let learns = c.in-Ok.ensures.ok in
    if_ok c.stored.result (λ acted stored. Joined learns.view learns.file
    (stored_as _ _ _ _ _ acted _ (ap (λ n. n.schema) learns.new_is) (ap (λ n. n.view) learns.new_is) stored)) c.stored.ensures

pub returns-in_ok-refused_file-in-Err-clause-does : goal.returns-in_ok-refused_file-in-Err-clause-does
returns-in_ok-refused_file-in-Err-clause-does c = OtherRefused c.in-Err.fault (search rules) (search rules) (search rules)
