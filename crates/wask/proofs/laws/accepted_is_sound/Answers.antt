use Rattle.wask.proofs.Accepted.{accepted_is_sound}
use Rattle.wask.proofs.laws.accepted_is_sound.Goals as goal

pub returns : goal.returns
returns c = accepted_is_sound
