use Rattle.std.proofs.Common.{sym, ◌∙◌}
use Rattle.weval.proofs.NumberFacts.{link_added}
use Rattle.weval.proofs.comparing.push_link.Goals as goal

pub returns-clause-added : goal.returns-clause-added
returns-clause-added c = link_added c.args.tests.now.items c.push_tests.new.tests.items c.args.link.now c.push_tests.result
    (sym c.is_and.ensures ∙ c.if-not-is_and.false) c.push_tests.ensures.added
