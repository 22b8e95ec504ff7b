use Rattle.std.proofs.Common.{map, ap, Some}
use Rattle.wvalues.specs.Meaning.{meaning}
use Rattle.weval.proofs.ReadFacts.{chain_reads}
use Rattle.weval.proofs.TruthFacts.{chain_says}
use Rattle.weval.proofs.judging.truth_on.Goals as goal

pub returns-in-Some-clause-says : goal.returns-in-Some-clause-says
returns-in-Some-clause-says c =
    chain_says (map meaning c.args.row.now) c.args.e.now c.deref.result.now c.in-Chain.first c.in-Chain.links
    c.as_slice.result.now c.in-Some.truth c.in-Chain.is c.deref.ensures c.as_slice.ensures.value
    (c.in-Some.ensures.says _ c.test_truth-2.ensures.says)

pub returns-in-Some-clause-memory : goal.returns-in-Some-clause-memory
returns-in-Some-clause-memory c =
    chain_reads (map meaning c.args.row.now) c.args.e.now c.deref.result.now c.in-Chain.first c.in-Chain.links
    c.as_slice.result.now c.in-Some.truth c.test_truth-2.result c.in-Chain.is c.deref.ensures c.as_slice.ensures.value
    c.test_truth-2.ensures.memory (λ h. c.in-Some.ensures.memory (ap Some h))
