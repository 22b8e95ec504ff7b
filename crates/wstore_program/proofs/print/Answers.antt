use Rattle.std.proofs.Common.{rules}
use Rattle.wstore_program.specs.Statuses.{Unwritten, Whole}
use Rattle.wstore_program.proofs.print.Goals as goal

pub returns-in-Ok : goal.returns-in-Ok
returns-in-Ok g c = Whole c.in-Ok.ensures.whole c.in-Ok.ensures.sound (search rules)

pub returns-in-Err : goal.returns-in-Err
returns-in-Err g c = Unwritten c.in-Err.ensures.front c.in-Err.ensures.failed (search rules)
