use Rattle.std.proofs.Common.{◌≡◌, drop, map}
use Rattle.wvalues.specs.Meaning.{meaning}
use Rattle.wplan.specs.Formula.{formula, formulas, operand_of}
use Rattle.weval.specs.Values.{value_along, is_among, value_in}
use Rattle.weval.specs.Cells.{outcome}
use Rattle.wvalues.specs.declared.truth.Truth.TheVariants.{No}
use Rattle.weval.proofs.evaluating.+eval.Given as goal

abbrev pub invariant-eval_links-links : goal.invariant-eval_links-links
invariant-eval_links-links l = value_along (map meaning l.row) (outcome l.fn.first) (map operand_of l.links)
    ≡ value_along (map meaning l.row) (outcome l.so_far) (map operand_of (drop l.link-index l.links))

abbrev pub invariant-eval_among-list : goal.invariant-eval_among-list
invariant-eval_among-list l = is_among (map meaning l.row) (value_in (outcome l.x)) No (formulas (map formula l.list))
    ≡ is_among (map meaning l.row) (value_in (outcome l.x)) l.found (formulas (map formula (drop l.e-index l.list)))
