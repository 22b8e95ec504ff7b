use Rattle.std.proofs.Common.{◌≡◌, true, drop, map}
use Rattle.wvalues.specs.Meaning.{meaning}
use Rattle.wplan.specs.Formula.{operand_of}
use Rattle.weval.specs.Values.{Judged, value_along}
use Rattle.weval.proofs.TruthFacts.{are_logical}
use Rattle.weval.proofs.judging.links_truth.Given as goal

abbrev pub invariant-links : goal.invariant-links
invariant-links l = are_logical l.links ≡ true → value_along (map meaning l.row) (Judged l.fn.first) (map operand_of l.links)
    ≡ value_along (map meaning l.row) (Judged l.so_far) (map operand_of (drop l.link-index l.links))
