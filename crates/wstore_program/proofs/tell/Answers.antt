use Rattle.wstore_program.proofs.tell.Goals as goal

pub returns-in-Help : goal.returns-in-Help
returns-in-Help g c = rw c.in-Help.is (rw c.as_bytes.ensures.value at c.print.ensures)
