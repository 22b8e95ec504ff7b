use Rattle.wstore_program.proofs.Performed.{not_put, put_in_place, unchanged, unfound}
use Rattle.wstore_program.specs.Performing.{Unlocked, Unput}
use Rattle.wstore_program.proofs.acting.carry_out.Goals as goal

pub returns-in-Err-clause-finished : goal.returns-in-Err-clause-finished
returns-in-Err-clause-finished g c = Unput (c.args.first, c.requires.gives.1, c.requires.new) (Unlocked c.in-Err.ensures.missed)

pub returns-in-Err-read-clause-finished : goal.returns-in-Err-read-clause-finished
returns-in-Err-read-clause-finished g c =
    Unput (c.args.first, c.requires.gives.1, c.requires.new)
    (unfound _ _ _ _ _ _ _ _ _ _ c.in-Ok.ensures.found c.in-Err-read.ensures.sited c.in-Err-read.ensures.path c.in-Err-read.ensures.folder
    c.in-Err-read.ensures.begun)

pub returns-in-Err-acted_again-clause-finished : goal.returns-in-Err-acted_again-clause-finished
returns-in-Err-acted_again-clause-finished g c =
    Unput (c.args.first, c.requires.gives.1, c.requires.new)
    (unchanged _ _ _ _ _ _ _ _ _ _ _ c.in-Ok.ensures.found c.in-Ok-read.ensures.sited c.in-Ok-read.ensures.path
    c.in-Ok-read.ensures.folder c.in-Err-acted_again.ensures.kind c.in-Ok-read.ensures.found)

pub returns-in-Ok-put-clause-finished : goal.returns-in-Ok-put-clause-finished
returns-in-Ok-put-clause-finished g c =
    put_in_place _ _ _ _ _ _ _ _ _ _ _ _ _ (c.args.first, c.requires.gives.1, c.requires.new) c.in-Ok.ensures.found
    c.in-Ok-read.ensures.sited c.in-Ok-read.ensures.path c.in-Ok-read.ensures.folder
    c.in-Ok-acted_again.ensures.acts c.in-Ok-read.ensures.found c.in-Ok-put.ensures.puts

pub returns-clause-finished : goal.returns-clause-finished
returns-clause-finished g c =
    Unput (c.args.first, c.requires.gives.1, c.requires.new)
    (not_put _ _ _ _ _ _ _ _ _ _ _ _ _ _ c.in-Ok.ensures.found c.in-Ok-read.ensures.sited c.in-Ok-read.ensures.path
    c.in-Ok-read.ensures.folder c.in-Ok-acted_again.ensures.acts c.in-Ok-read.ensures.found c.in-Err-put.ensures.puts c.fault.ensures)
