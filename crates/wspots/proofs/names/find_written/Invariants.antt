use Rattle.wspots.proofs.Asked.{TellsAll}
use Rattle.wspots.proofs.names.find_written.Given as goal

abbrev pub invariant-selects : goal.invariant-selects
invariant-selects l = TellsAll l.written l.rule l.query l.place l.select-items l.columns.items
