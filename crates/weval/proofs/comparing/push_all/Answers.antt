use Rattle.weval.proofs.NumberFacts.{chain_added}
use Rattle.weval.proofs.comparing.push_all.Goals as goal

pub returns-clause-added : goal.returns-clause-added
returns-clause-added c = chain_added c.args.tests.now.items c.push_tests-2.new.tests.items c.push_links.new.tests.items
    c.args.e.now c.deref.result.now c.in-Chain.first c.in-Chain.links c.as_slice.result.now c.push_links.result c.in-Chain.is
    c.deref.ensures c.as_slice.ensures.value (c.in_ok-found.ensures.added c.if-not-found.false) c.push_links.ensures.added
