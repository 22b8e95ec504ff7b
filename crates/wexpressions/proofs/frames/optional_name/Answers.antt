use Rattle.std.proofs.Common.{Some, refl, ap}
use Rattle.wexpressions.proofs.Steps.{got_along, never_then, as_got, one_got, perhaps_absent, perhaps_present}
use Rattle.wexpressions.proofs.Parts.{one_grips, name_grip}
use Rattle.wexpressions.proofs.frames.optional_name.Goals as goal

pub returns-in_default : goal.returns-in_default
returns-in_default c = perhaps_absent (never_then c.in_default.ensures)

pub returns : goal.returns
returns c = got_along (ap Some c.in_ok-name.ensures.cases) refl (perhaps_present (one_grips name_grip c.in-Some.ensures)
    (as_got (one_got c.in-Some.ensures)))
