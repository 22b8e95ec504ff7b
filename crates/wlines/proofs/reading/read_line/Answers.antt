use Rattle.std.proofs.Common.{arith, length}
use Rattle.wlines.specs.Pending.{left}
use Rattle.wlines.proofs.Lines.{ended_line, full_line, line_consumed, line_lacks, line_longer, not_full}
use Rattle.wlines.proofs.Saying.{says_still}
use Rattle.wlines.proofs.reading.read_line.Goals as goal

pub bytes-preserved : goal.bytes-preserved
bytes-preserved g c =
    let line = c.bytes.line in
    let new = c.push.new.self in
    let byte = c.in-Some.byte in
    let given = rw c.in-Some.is at c.in_ok-next.ensures.some in
    let less = rw c.in-Some.is at c.in_ok-next.ensures.falls in
    let longer = line_longer line new byte c.push.ensures in
    record {
      lacks = line_lacks line new byte c.push.ensures c.bytes.invariant.lacks c.if-byte-eq10.false;
      short = omega (arith, longer, not_full c.is_full.result (length line) c.if-is_full.false c.is_full.ensures.1 c.bytes.invariant.short);
      consumed = line_consumed _ _ _ line new byte c.push.ensures c.bytes.invariant.consumed given;
      sound = c.in_ok-next.ensures.leaves.ready.reader;
      output = c.in_ok-next.ensures.leaves.ready.writer;
      says = says_still _ _ _ c.bytes.invariant.says c.next.ensures.leaves.says;
      falls = omega (arith, longer, less, c.bytes.invariant.falls);
    }

pub returns-in_default-clause-reads : goal.returns-in_default-clause-reads
returns-in_default-clause-reads g c =
    let kept = rw c.in_default.is at c.in_ok-next.ensures.kept in
    let end = rw c.in_default.is at c.in_ok-next.ensures.end in
    ended_line c.end_without_feed.result _ _ (left g.R.Read.remaining c.next.new.self.held c.next.new.input) c.bytes.line
    c.bytes.invariant.consumed kept end c.bytes.invariant.lacks c.bytes.invariant.short c.end_without_feed.ensures.unfed
    c.end_without_feed.ensures.closed c.end_without_feed.ensures.malformed

pub returns-then-is_full-clause-reads : goal.returns-then-is_full-clause-reads
returns-then-is_full-clause-reads g c =
    let given = rw c.in-Some.is at c.in_ok-next.ensures.some in
    full_line _ _ (left g.R.Read.remaining c.next.new.self.held c.next.new.input) c.bytes.line c.in-Some.byte
    c.bytes.invariant.consumed given c.bytes.invariant.lacks c.if-byte-eq10.false (c.is_full.ensures.0 c.if-is_full.true)
