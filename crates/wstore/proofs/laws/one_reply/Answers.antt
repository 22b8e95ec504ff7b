use Rattle.wstore.proofs.OneReply.{one_reply}
use Rattle.wstore.proofs.laws.one_reply.Goals as goal

pub returns : goal.returns
returns c = one_reply
