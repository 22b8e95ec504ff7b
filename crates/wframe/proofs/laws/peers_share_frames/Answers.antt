use Rattle.wframe.proofs.TieFacts.{kept_alike}
use Rattle.wframe.proofs.laws.peers_share_frames.Goals as goal

pub returns : goal.returns
returns c = kept_alike
