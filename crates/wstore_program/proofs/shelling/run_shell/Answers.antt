use Rattle.std.proofs.KnownBytes.{Keeps-refl}
use Rattle.wstore_program.specs.Shelling.{NotOpened, Ran, Refused}
use Rattle.wstore_program.proofs.shelling.run_shell.Goals as goal

pub returns-in-Ok-Node : goal.returns-in-Ok-Node
returns-in-Ok-Node g c = Ran c.in-Ok-Node.node (rw c.in-Ok-Node.field-0-is at c.in-Ok-Node.ensures.opened)
    c.in-Ok-Node.ensures.sound c.answer.ensures

pub returns-in-Ok-Refused : goal.returns-in-Ok-Refused
returns-in-Ok-Refused g c = Refused c.in-Ok-Refused.text (rw c.in-Ok-Refused.field-0-is at c.in-Ok-Refused.ensures.opened)
    c.in-Ok-Refused.ensures.sound (rw c.as_slice.ensures at c.print.ensures)

pub returns-in-Err : goal.returns-in-Err
returns-in-Err g c = NotOpened c.in-Err.fault c.in-Err.ensures.cause c.in-Err.ensures.unopened (Keeps-refl _) c.failed_on.ensures
