use Rattle.wexpressions.proofs.Steps.{one_got, perhaps_absent, perhaps_present}
use Rattle.wexpressions.proofs.Parts.{one_grips, direction_grip}
use Rattle.wexpressions.proofs.frames.descending.Goals as goal

pub returns-in-None : goal.returns-in-None
returns-in-None c = perhaps_absent c.in-None.ensures

pub returns-in-Some : goal.returns-in-Some
returns-in-Some c = perhaps_present (one_grips direction_grip c.in-Some.ensures) (one_got c.in-Some.ensures)
