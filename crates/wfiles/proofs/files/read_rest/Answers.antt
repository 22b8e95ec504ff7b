use Rattle.wfiles.proofs.Noting.{reads_some}
use Rattle.wfiles.proofs.files.read_rest.Goals as goal

pub returns-in-Err-grown-clause-begun : goal.returns-in-Err-grown-clause-begun
returns-in-Err-grown-clause-begun g c =
    let bound = rw c.in-Ok-Some.field-0-is at c.in-Ok-Some.ensures.bound in
    let noted = rw c.in-Ok-Some.field-0-is at c.in-Ok-Some.ensures.noted in
    reads_some c.in-Ok-Some.count c.read.new.block c.reads.bytes.items _ _ _ c.if-count-eq0.false bound c.reads.invariant.noted noted
