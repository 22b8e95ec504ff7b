use Rattle.std.proofs.Common.{sym, ◌∙◌}
use Rattle.weval.proofs.NumberFacts.{joins_more, links_found}
use Rattle.weval.proofs.comparing.push_links.Goals as goal

pub links-preserved : goal.links-preserved
links-preserved c = record {
  found = links_found c.args.links.now c.links.link-index c.link-item.result c.links-test.true c.link-item.is
      c.links.invariant.found (sym c.in-Ok-true.ensures.found ∙ c.in-Ok-true.field-0-test);
  joins = joins_more c.args.tests.now.items c.links.tests.items c.push_link.new.tests.items c.args.links.now c.links.link-index
      c.link-item.result c.links-test.true c.link-item.is c.links.invariant.joins
      (c.in-Ok-true.ensures.added c.in-Ok-true.field-0-test);
}
