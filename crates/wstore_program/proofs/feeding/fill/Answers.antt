use Rattle.std.proofs.Common.{rules}
use Rattle.std.specs.Io.KnownBytes.{IsAtEnd}
use Rattle.wstore_program.proofs.Streamed.{refused_at_end, refused_in_block}
use Rattle.wstore_program.proofs.feeding.fill.Goals as goal

pub returns-in-Err-push-clause-refused : goal.returns-in-Err-push-clause-refused
returns-in-Err-push-clause-refused g c =
    let bytes = rw c.in-Ok-Some.field-0-is at c.in-Ok-Some.ensures.bytes in
    let bound = rw c.in-Ok-Some.field-0-is at c.in-Ok-Some.ensures.bound in
    let noted = rw c.in-Ok-Some.field-0-is at c.in-Ok-Some.ensures.noted in
    refused_in_block c.in-Ok-Some.count c.read.new.block _ c.reads.batch.schema _ _ _ _ c.reads.batch.stopped
    c.in-Err-push.reason _ _ _ c.reads.invariant.schema c.reads.invariant.taken bytes.0 c.reads.invariant.goes_on
    c.in-Err-push.ensures.stops c.if-count-eq0.false bound c.reads.invariant.noted noted

pub returns-then-count-eq0-clause-refused : goal.returns-then-count-eq0-clause-refused
returns-then-count-eq0-clause-refused g c =
    let bytes = rw c.in-Ok-Some.field-0-is at c.in-Ok-Some.ensures.bytes in
    let noted = rw c.in-Ok-Some.field-0-is at c.in-Ok-Some.ensures.noted in
    let end : IsAtEnd (g.T.Read.remaining c.read.new.self.reader) = search rules in
    refused_at_end c.in-Ok-Some.count c.read.new.block _ c.reads.batch.schema _ _ _ _ c.reads.batch.stopped c.ended.result _
    _ _ c.reads.invariant.schema c.reads.invariant.taken bytes.0 end c.reads.invariant.goes_on c.ended.ensures.refused
    c.if-count-eq0.true c.reads.invariant.noted noted
