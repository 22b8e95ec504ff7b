use Rattle.std.proofs.Common.{arith}
use Rattle.wstream.proofs.Streams.{bad_start}
use Rattle.wstream.proofs.found.first_of.Goals as goal

pub returns-in-None-cut_within : goal.returns-in-None-cut_within
returns-in-None-cut_within c = bad_start c.args.bytes.now (omega arith) c.in-None-cut_within.ensures.none
