use Rattle.wexplain.proofs.Missing.{missing_behind}
use Rattle.wexplain.proofs.items.cut_item.Goals as goal

pub returns-in-Some-body_length-clause-missing : goal.returns-in-Some-body_length-clause-missing
returns-in-Some-body_length-clause-missing c =
    missing_behind c.with_body.result _ _ _ c.in-Some.ensures.found c.with_body.ensures.missing
