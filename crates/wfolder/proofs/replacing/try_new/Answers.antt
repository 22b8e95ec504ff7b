use Rattle.std.proofs.Common.{◌∙◌, rules, string_bytes}
use Rattle.wfolder.proofs.Sites.{numbered, numbered_at}
use Rattle.wfolder.proofs.Steps.{made_at}
use Rattle.wfolder.proofs.replacing.try_new.Goals as goal

pub returns-in-Ok-Some-clause-makes : goal.returns-in-Ok-Some-clause-makes
returns-in-Ok-Some-clause-makes g c = made_at (λ name. string_bytes name) c.args.target.now _ _ _ _ c.create_at.result
    (numbered_at _ _ _ c.args.number (rw c.in-Ok-Some.field-0-is at c.in-Ok-Some.ensures.is)
    (c.as_str.ensures.value ∙ c.in-Ok.ensures.ok)) c.create_at.ensures.makes

pub returns-in-Ok-None-clause-makes : goal.returns-in-Ok-None-clause-makes
returns-in-Ok-None-clause-makes g c =
    let is_new = numbered c.as_str.result.now c.args.number c.ranges.number.fits (c.as_str.ensures.value ∙ c.in-Ok.ensures.ok) in
    let found = (rw c.in-Ok-None.field-0-is at c.in-Ok-None.ensures.found).1 is_new in
    absurd (search rules)
