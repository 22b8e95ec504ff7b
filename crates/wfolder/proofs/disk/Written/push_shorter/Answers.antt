use Rattle.std.proofs.Common.{◌∙◌, ap, arith}
use Rattle.wfolder.specs.Memory.{held_by}
use Rattle.wfolder.proofs.Memory.{cut_is, state_more}
use Rattle.wfolder.proofs.disk.Written.push_shorter.Goals as goal

pub loop-length-preserved : goal.loop-length-preserved
loop-length-preserved c = ap held_by c.in_ok-push.ensures.items
    ∙ state_more c.loop-length.left.items c.get.result (held_by c.args.left.now.items) c.args.self.now.bytes.items c.loop-length.length
    c.loop-length.invariant
    (cut_is c.get.result c.deref.result.now c.args.self.now.bytes.items c.loop-length.length c.deref.ensures.value
    (omega (arith, c.args.self.now.bytes.ok.0, c.loop-length-test.true, c.len-length-end.ensures)) c.get.ensures.lookup.0)
