use Rattle.std.proofs.Common.{refl}
use Rattle.wstore_program.specs.Program.{Chosen, Told}
use Rattle.wstore_program.proofs.run_words.Goals as goal

pub returns-in-Ok : goal.returns-in-Ok
returns-in-Ok g c = Chosen c.in-Ok.choice c.in-Ok.ensures.chosen c.run_choice.ensures

pub returns : goal.returns
returns g c = Told c.in-Err.fault c.in-Err.ensures.chosen refl refl c.requires.sound c.tell-status.ensures
