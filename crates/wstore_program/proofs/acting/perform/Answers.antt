use Rattle.wstore_program.specs.Performing.{Store, Table, Unread}
use Rattle.wstore_program.proofs.Performed.{performed_by}
use Rattle.wstore_program.proofs.acting.perform.Goals as goal

pub returns-in-Err-clause-performed : goal.returns-in-Err-clause-performed
returns-in-Err-clause-performed g c = Unread c.args.paths c.requires.named (Table c.in-Err.ensures.begun)

pub returns-in-Err-read_if_there-clause-performed : goal.returns-in-Err-read_if_there-clause-performed
returns-in-Err-read_if_there-clause-performed g c =
    Unread c.args.paths c.requires.named (Store _ _ c.in-Ok.ensures.found c.in-Err-read_if_there.ensures.begun)

pub returns-clause-performed : goal.returns-clause-performed
returns-clause-performed g c =
    performed_by _ c.args.paths _ _ _ _ _ _ _ c.perform_on.result c.requires.named c.as_slice.ensures.value
    c.in-Ok.ensures.found c.in-Ok-read_if_there.ensures.found c.perform_on.ensures.ended
