use Rattle.wstream.proofs.FirstMessage.{first_message}
use Rattle.wstream.proofs.laws.first_message.Goals as goal

pub returns : goal.returns
returns c = first_message
