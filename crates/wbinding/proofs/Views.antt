-- What a further operand of a chain says, part by part.
use Rattle.std.proofs.Common.{◌≡◌}
use Rattle.wquery.specs.declared.expression.Link.{Link}
use Rattle.wquery.specs.declared.expression.Arguments.TheFolds.{fold_out-Link}
use Rattle.wplan.specs.declared.expr.Further.{Further}
use Rattle.wplan.specs.declared.expr.Expr.TheFolds.{fold_out-Further}
use Rattle.wplan.specs.Formula.{Formula, Operand, formula, operand_of, expr_step, further_step}
use Rattle.wquery.specs.Tree.{Tree, Given, Reach, KeyTree, Branch, WindowTree, view, view_link, arguments_step}
use Rattle.wquery.specs.Tree.{expression_step, over_step, call_step, key_step, link_step, window_step}

pub link_is : (l : Link) → view_link l ≡ record { operator = l.operator; operand = view l.operand }
unfolding view_link view
link_is l = fold_out-Link Given Tree Reach Tree KeyTree Branch WindowTree arguments_step expression_step over_step call_step
    key_step link_step window_step l

pub operand_is : (l : Further) → operand_of l ≡ record { operator = l.operator; operand = formula l.operand }
unfolding operand_of formula
operand_is l = fold_out-Further Formula Operand expr_step further_step l
