use Rattle.wset.proofs.Singles.{retire_known, retire_other}
use Rattle.wset.proofs.Sets.{same_view, then_view}
use Rattle.wset.proofs.set.SegmentSet.retire.Goals as goal

pub returns-then-is_retired-clause-ok : goal.returns-then-is_retired-clause-ok
returns-then-is_retired-clause-ok c =
    same_view c.args.self.now _ (retire_known c.args.self.now.view c.args.name c.is_retired.ensures.settled
    (c.is_retired.ensures.retired.0 c.if-is_retired.true))

pub returns-clause-ok : goal.returns-clause-ok
returns-clause-ok c =
    then_view c.args.self.now c.put.new.self _ _ c.in_ok-put.ensures.ok (retire_other c.args.self.now.view c.args.name
    c.is_retired.ensures.settled (c.is_retired.ensures.high c.if-is_retired.false) (c.is_retired.ensures.other c.if-is_retired.false))
