use Rattle.std.proofs.Common.{map}
use Rattle.wvalues.specs.Meaning.{meaning}
use Rattle.weval.proofs.ReadFacts.{link_reads}
use Rattle.weval.proofs.TruthFacts.{link_fault, link_truth}
use Rattle.weval.proofs.judging.links_truth.Goals as goal

pub returns-in-Err-clause-says : goal.returns-in-Err-clause-says
returns-in-Err-clause-says c = λ all. link_fault (map meaning c.args.row.now) c.links.so_far c.in-Err.fault _
    c.args.links.now c.links.link-index c.link-item.result c.links-test.true c.link-item.is (c.links.invariant all) c.in-Err.ensures.says

pub returns-in-Err-clause-memory : goal.returns-in-Err-clause-memory
returns-in-Err-clause-memory c = λ h. link_reads (map meaning c.args.row.now) c.args.links.now
    c.links.link-index c.link-item.result c.links-test.true c.link-item.is (c.in-Err.ensures.memory h)

pub links-preserved : goal.links-preserved
links-preserved c = λ all. link_truth (map meaning c.args.row.now) c.links.so_far c.in-Ok.truth _ _ c.args.links.now
    c.links.link-index c.link-item.result c.links-test.true c.link-item.is all (c.links.invariant all) c.in-Ok.ensures.says
    c.joined-so_far.ensures
