use Rattle.wstream.proofs.Streams.{bad_unread}
use Rattle.wstream.proofs.found.line_found.Goals as goal

pub returns-in_default : goal.returns-in_default
returns-in_default c =
    bad_unread c.args.bytes.now c.args.line.now c.args.rest.now c.requires.lacks c.requires.line
    (λ f h e. c.in_default.not-Some f (c.read_form.ensures.only f h e))
