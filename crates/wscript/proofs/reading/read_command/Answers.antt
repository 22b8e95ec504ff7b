use Rattle.std.proofs.Common.{sym, ◌∙◌}
use Rattle.wlines.specs.Pending.{left}
use Rattle.wscript.proofs.Spelling.{bad_line, bad_header, request_reads}
use Rattle.wscript.proofs.reading.read_command.Goals as goal

pub returns-in-Malformed-clause-reads : goal.returns-in-Malformed-clause-reads
returns-in-Malformed-clause-reads g c =
    let read = rw c.in-Malformed.is at c.in_ok-end.ensures.reads in
    bad_line c.args.declared (left g.R.Read.remaining c.args.source.now.held c.args.input.now) read.0

pub returns-in_default-clause-reads : goal.returns-in_default-clause-reads
returns-in_default-clause-reads g c =
    let read = rw c.in-Whole.is at c.in_ok-end.ensures.reads in
    bad_header c.args.declared (left g.R.Read.remaining c.args.source.now.held c.args.input.now)
    (left g.R.Read.remaining c.read_line.new.source.held c.read_line.new.input) c.read_line.new.line
    read.0 read.1 (λ f form is. c.in_default.ensures.only f form (c.as_slice.ensures ∙ is))

pub returns-clause-reads : goal.returns-clause-reads
returns-clause-reads g c =
    let read = rw c.in-Whole.is at c.in_ok-end.ensures.reads in
    let found = c.in-Some.ensures.found in
    request_reads c.in_ok-request.request c.args.declared (left g.R.Read.remaining c.args.source.now.held c.args.input.now)
    (left g.R.Read.remaining c.read_line.new.source.held c.read_line.new.input)
    (left g.R.Read.remaining c.read_behind.new.source.held c.read_behind.new.input)
    c.read_line.new.line c.in-Some.header found.0 found.2 found.1 (sym c.as_slice.ensures ∙ found.3) read.2 read.1 read.0
    (λ f form is. c.in-Some.ensures.only f form (c.as_slice.ensures ∙ is)) c.in_ok-request.ensures.reads
