use Rattle.std.proofs.Common.{OnOk, subst}
use Rattle.wset.proofs.Singles.{dispute_settled, dispute_other}
use Rattle.wset.specs.Sets.{Becomes}
use Rattle.wset.proofs.Sets.{same_view}
use Rattle.wset.proofs.set.SegmentSet.dispute.Goals as goal

pub returns-then-is_settled-clause-ok : goal.returns-then-is_settled-clause-ok
returns-then-is_settled-clause-ok c =
    same_view c.args.self.now _ (dispute_settled c.args.self.now.view c.args.name c.is_settled.ensures.settled
    (c.is_settled.ensures.word.0 c.if-is_settled.true))

pub returns-clause-ok : goal.returns-clause-ok
returns-clause-ok c =
    subst (λ v. OnOk c.put.result (Becomes c.args.self.now v c.put.new.self))
    (dispute_other c.args.self.now.view c.args.name c.is_settled.result c.is_settled.ensures.settled
    c.is_settled.ensures.word.1 (c.is_settled.ensures.high c.if-is_settled.false) c.if-is_settled.false) c.put.ensures.ok
