use Rattle.std.proofs.Common.{◌∙◌}
use Rattle.wfolder.proofs.Steps.{created, missed, some_mapped, unmade}
use Rattle.wfolder.proofs.replacing.create_at.Goals as goal

pub returns-in-Ok-true-clause-makes : goal.returns-in-Ok-true-clause-makes
returns-in-Ok-true-clause-makes g c = created c.in-Ok-true.field-0-test c.as_str.ensures.value c.requires.other
    c.requires.ours (c.is_some.ensures ∙ some_mapped _ _ _ c.access.ensures) c.in-Ok-true.ensures.made

pub returns-in-Ok-false-clause-makes : goal.returns-in-Ok-false-clause-makes
returns-in-Ok-false-clause-makes g c = missed c.in-Ok-false.field-0-test c.as_str.ensures.value
    c.requires.other c.requires.ours (c.is_some.ensures ∙ some_mapped _ _ _ c.access.ensures) c.in-Ok-false.ensures.made

pub returns-in-Err-clause-idle : goal.returns-in-Err-clause-idle
returns-in-Err-clause-idle g c = unmade c.in-Err.ensures.kind c.as_str.ensures.value c.requires.other c.requires.ours
    (c.is_some.ensures ∙ some_mapped _ _ _ c.access.ensures) c.in-Err.ensures.failed
