use Rattle.std.proofs.Common.{arith}
use Rattle.wrecords.proofs.Cutting.{unfed_at}
use Rattle.wrecords.proofs.cut.cut_body.Goals as goal

pub returns-then-bytes-len-ne10 : goal.returns-then-bytes-len-ne10
returns-then-bytes-len-ne10 c = unfed_at c.args.bytes.now c.args.len (omega arith) c.if-bytes-len-ne10.true
