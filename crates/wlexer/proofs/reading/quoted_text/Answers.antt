use Rattle.wlexer.proofs.Steps.{quoted_text_found}
use Rattle.wlexer.proofs.reading.quoted_text.Goals as goal

pub returns-clause-found : goal.returns-clause-found
returns-clause-found c = quoted_text_found c.in_ok-body.ensures.found c.in_ok-literal.ensures.ok
