use Rattle.wstore_program.proofs.Streamed.{refused_under}
use Rattle.wstore_program.proofs.feeding.fill_from.Goals as goal

pub returns-clause-refused : goal.returns-clause-refused
returns-clause-refused g c = refused_under _ _ _ _ _ _ _ _ c.fill-stopped.result c.in-Ok.ensures.begun c.ended.ensures
    c.fill-stopped.ensures.refused
