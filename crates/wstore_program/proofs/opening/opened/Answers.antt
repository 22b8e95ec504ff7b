use Rattle.wstore_program.proofs.Performed.{grown_lacks}
use Rattle.wstore_program.proofs.opening.opened.Goals as goal

pub returns-clause-kind : goal.returns-clause-kind
returns-clause-kind g c = grown_lacks c.open_store.result c.grown.result c.grown.ensures.made c.grown.ensures.refused
