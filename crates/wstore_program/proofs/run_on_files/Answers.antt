use Rattle.std.proofs.Common.{rules}
use Rattle.wstore_program.specs.Statuses.{Failed, Performed}
use Rattle.wstore_program.proofs.run_on_files.Goals as goal

pub returns-in-Ok : goal.returns-in-Ok
returns-in-Ok g c = Performed c.in-Ok.acted c.in-Ok.ensures.performed c.in-Ok.ensures.counted (rw c.as_slice.ensures at c.print.ensures)

pub returns-in-Err : goal.returns-in-Err
returns-in-Err g c = Failed c.in-Err.fault c.in-Err.ensures.counted c.in-Err.ensures.performed (search rules) (search rules)
