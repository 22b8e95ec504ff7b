use Rattle.std.proofs.Common.{ap, map}
use Rattle.wquery.specs.Tree.{view_call}
use Rattle.wdistinct.specs.declared.call_key.CallKey.{CallKey}
use Rattle.wdistinct.specs.Places.{calls_in}
use Rattle.wdistinct.proofs.call_set.CallSet.new.Goals as goal

pub returns : goal.returns
unfolding calls_in
returns c = ap (map (λ (k : CallKey). view_call k.call.now)) c.new.ensures.empty
