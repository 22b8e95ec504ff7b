use Rattle.std.proofs.Common.{rules}
use Rattle.wlines.specs.Pending.{left}
use Rattle.wlines.proofs.Lines.{fed_body}
use Rattle.wlines.proofs.reading.skip_body.Goals as goal

pub returns-clause-reads : goal.returns-clause-reads
returns-clause-reads g c =
    let t = c.in_ok-skip.ensures.whole (search rules) in
    fed_body c.in_ok-found.found c.args.len (left g.R.Read.remaining c.args.source.now.held c.args.input.now)
    (left g.R.Read.remaining c.skip.new.source.held c.skip.new.input)
    (left g.R.Read.remaining c.take_feed.new.source.held c.take_feed.new.input) t.0 t.1 t.2 c.in_ok-found.ensures.reads
