use Rattle.wset.proofs.Union.{view_tells_status}
use Rattle.wset.proofs.laws.view_tells_status.Goals as goal

pub returns : goal.returns
returns c = view_tells_status
