use Rattle.std.proofs.Common.{refl, rules}
use Rattle.wfolder.proofs.Steps.{cleared, let_be}
use Rattle.wfolder.proofs.replacing.clear_name.Goals as goal

pub returns-in-Ok-Some-clause-cleared : goal.returns-in-Ok-Some-clause-cleared
returns-in-Ok-Some-clause-cleared g c = cleared c.args.name.now c.as_str.ensures.value
    (rw c.in-Ok-Some.field-0-is at c.in-Ok-Some.ensures.beside) (rw c.in-Ok-Some.field-0-is at c.in-Ok-Some.ensures.is)
    c.remove.ensures.calls

pub returns-in-Ok-None-clause-cleared : goal.returns-in-Ok-None-clause-cleared
returns-in-Ok-None-clause-cleared g c =
    let says = rw c.in-Ok-None.field-0-is at c.in-Ok-None.ensures.found in
    let_be (λ new. let found = says.1 new in absurd (search rules)) refl
