use Rattle.std.proofs.Common.{take_all, subst, arith}
use Rattle.wruns.specs.Grouping.{HaveOneCode}
use Rattle.wruns.proofs.SharedFacts.{one_more}
use Rattle.wruns.proofs.run.share_codes.Goals as goal

pub loop-list-preserved : goal.loop-list-preserved
loop-list-preserved c =
    one_more c.args.a c.args.b c.args.codes.now c.loop-list.list-index c.list-item.result c.loop-list-test.true
    c.list-item.is c.loop-list.invariant
    ((rw c.deref.ensures.value at c.have_one_code.ensures) c.if-not-have_one_code.false)

pub returns : goal.returns
returns c = λ told. subst (HaveOneCode c.args.a c.args.b) (take_all c.loop-list.list-index c.args.codes.now
    (omega (arith, c.loop-list-test.false))) c.loop-list.invariant
