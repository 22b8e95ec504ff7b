use Rattle.std.proofs.Common.{◌∙◌, sym, ap, Some}
use Rattle.wrecords.proofs.Shapes.{one_name}
use Rattle.wrecords.proofs.form.name_of.Goals as goal

pub returns-in-Ok-clause-only : goal.returns-in-Ok-clause-only
returns-in-Ok-clause-only c = λ n is o e.
    let s = c.in-Ok.ensures in
    ap (λ m. Some m) (one_name c.in-Ok.name n s.is_name is (sym s.origin_is ∙ o) (sym s.number_is ∙ e))
