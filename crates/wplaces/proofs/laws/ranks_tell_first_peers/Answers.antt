use Rattle.wplaces.proofs.RankFacts.{rank_from_first_peer}
use Rattle.wplaces.proofs.laws.ranks_tell_first_peers.Goals as goal

pub returns : goal.returns
returns c = rank_from_first_peer
