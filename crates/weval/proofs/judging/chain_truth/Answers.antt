use Rattle.std.proofs.Common.{map, sym, ◌∙◌}
use Rattle.wvalues.specs.Meaning.{meaning}
use Rattle.wplan.specs.Formula.{operand_of}
use Rattle.weval.proofs.TruthFacts.{first_fault, first_truth}
use Rattle.weval.proofs.judging.chain_truth.Goals as goal

pub returns-in-Err-clause-says : goal.returns-in-Err-clause-says
returns-in-Err-clause-says c = λ o h. first_fault (map meaning c.args.row.now) c.in-Err.fault
    (map operand_of c.args.links.now) o c.args.first c.in-Err.is h

pub returns-in-Ok-clause-says : goal.returns-in-Ok-clause-says
returns-in-Ok-clause-says c = λ o h.
    let logical = sym c.are_logical.ensures ∙ c.if-not-are_logical.false in
    first_truth (map meaning c.args.row.now) c.in-Ok.truth c.args.links.now o c.args.first c.links_truth.result c.in-Ok.is
    logical h (c.links_truth.ensures.says logical)
