use Rattle.std.proofs.Common.{refl}
use Rattle.wexpressions.specs.declared.fault.ParseFault.TheVariants.{Syntax}
use Rattle.wexpressions.proofs.Steps.{got_along, any_leads, then_got, then_refused, after_got, after_missing, as_got, as_refused}
use Rattle.wexpressions.proofs.frames.two_bounds.Goals as goal

pub returns-in_default : goal.returns-in_default
returns-in_default c = then_refused Syntax (λ s. any_leads {k = 31}) c.in_default.ensures

pub returns-in_default-keyword : goal.returns-in_default-keyword
returns-in_default-keyword c = then_got (λ s. any_leads) c.in-Some.ensures (after_missing c.in_default-keyword.ensures)

pub returns-in-None : goal.returns-in-None
returns-in-None c = then_got (λ s. any_leads) c.in-Some.ensures (after_got c.in-Some-keyword.ensures (as_refused Syntax c.in-None.ensures))

pub returns-in-Some-bound : goal.returns-in-Some-bound
returns-in-Some-bound c = got_along c.ends.ensures refl (then_got (λ s. any_leads) c.in-Some.ensures
    (after_got c.in-Some-keyword.ensures (as_got c.in-Some-bound.ensures)))
