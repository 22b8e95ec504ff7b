use Rattle.std.proofs.Common.{true, false, refl, sym, ◌∙◌}
use Rattle.std.specs.List.{list_any}
use Rattle.wvalues.specs.Meaning.{meaning}
use Rattle.wvalues.specs.declared.truth.Truth.TheVariants.{Yes, No, Unknown}
use Rattle.wplan.specs.Constants.{stand_apart}
use Rattle.weval.proofs.AmongFacts.{among_is}
use Rattle.weval.proofs.operating.value_among.Goals as goal

pub returns-then-has_equal : goal.returns-then-has_equal
returns-then-has_equal c = λ row. among_is row c.args.list.now (meaning c.args.x.now) true
    (list_any (stand_apart (meaning c.args.x.now)) c.args.list.now) Yes (sym c.if-has_equal.true ∙ c.has_equal.ensures) refl refl

pub returns-then-has_apart : goal.returns-then-has_apart
returns-then-has_apart c = λ row. among_is row c.args.list.now (meaning c.args.x.now) false true Unknown
    (sym c.if-has_equal.false ∙ c.has_equal.ensures) (sym c.if-has_apart.true ∙ c.has_apart.ensures) refl

pub returns-else-has_apart : goal.returns-else-has_apart
returns-else-has_apart c = λ row. among_is row c.args.list.now (meaning c.args.x.now) false false No
    (sym c.if-has_equal.false ∙ c.has_equal.ensures) (sym c.if-has_apart.false ∙ c.has_apart.ensures) refl
