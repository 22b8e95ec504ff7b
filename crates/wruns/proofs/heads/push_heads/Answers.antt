use Rattle.std.proofs.Common.{arith, rules}
use Rattle.wruns.proofs.HeadFacts.{heads_grown}
use Rattle.wruns.proofs.heads.push_heads.Goals as goal

pub loop-number-preserved : goal.loop-number-preserved
loop-number-preserved c =
    let groups = c.args.run.now.groups in
    let i = c.loop-number.number in
    heads_grown c.args.segment groups i c.args.heads.now.items c.loop-number.heads.items c.push.new.self.items
    c.group-rows.result.now c.first_of-row.result c.in_ok-group.group _
    (omega (arith, c.loop-number-test.true, c.groups-number-end.ensures)) c.group-rows.ensures
    c.first_of-row.ensures c.in_ok-group.ensures (search rules) c.loop-number.invariant c.in_ok-push.ensures.items
