use Rattle.wstore_program.proofs.Performed.{lacks_of}
use Rattle.wstore_program.proofs.acting.refuse_stream.Goals as goal

pub returns-in-Err-clause-kind : goal.returns-in-Err-clause-kind
returns-in-Err-clause-kind g c = lacks_of c.undelivered.result c.grown.result c.in-Err.fault c.grown.ensures.made c.grown.ensures.refused
    c.in-Err.is
