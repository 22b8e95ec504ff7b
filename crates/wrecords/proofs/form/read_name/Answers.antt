use Rattle.std.specs.Fmt.{decimal}
use Rattle.wrecords.proofs.Words.{origin_no_space}
use Rattle.wrecords.proofs.form.read_name.Goals as goal

pub returns-in_default-clause-only : goal.returns-in_default-clause-only
returns-in_default-clause-only c = λ n is e. absurd (c.in_default.ensures.only n.origin (decimal n.number) (origin_no_space n is) e)

pub returns-clause-only : goal.returns-clause-only
returns-clause-only c = λ n is e.
    let cut = c.in-Some.ensures.only n.origin (decimal n.number) (origin_no_space n is) e in
    c.name_of.ensures.only n is cut.0 cut.1
