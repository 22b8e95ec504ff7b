use Rattle.std.proofs.Common.{rules}
use Rattle.wlines.specs.Pending.{left}
use Rattle.wlines.proofs.Lines.{unfed_body}
use Rattle.wlines.proofs.reading.read_into.Goals as goal

pub returns-then-not-branch-2-clause-reads : goal.returns-then-not-branch-2-clause-reads
returns-then-not-branch-2-clause-reads g c =
    let unfed = rw c.if-not-branch-2.true at c.in_ok-take_feed.ensures.reads in
    unfed_body c.args.len (left g.R.Read.remaining c.args.source.now.held c.args.input.now)
    (left g.R.Read.remaining c.fill.new.source.held c.fill.new.input)
    (left g.R.Read.remaining c.take_feed.new.source.held c.take_feed.new.input) c.fill.new.bytes.items c.in_ok-fill.ensures.taken
    (c.in_ok-fill.ensures.whole (search rules)) unfed
