use Rattle.std.proofs.Common.{[], ap}
use Rattle.wset.specs.Views.{View}
use Rattle.wset.proofs.Maps.{view_none}
use Rattle.wset.proofs.set.SegmentSet.empty.Goals as goal

pub returns : goal.returns
returns c = rw c.new.ensures.items (ap (λ (v : View). record { schema = c.args.schema; view = v; orders = [] }) view_none)
