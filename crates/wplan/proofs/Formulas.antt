-- What a chain and a list say, by their parts.
use Rattle.std.proofs.Common.{◌≡◌, Bool, sym, ap, ◌∙◌, map}
use Rattle.std.specs.declared.boxed.Box.{Box}
use Rattle.std.specs.declared.vec.Vec.{Vec}
use Rattle.std.specs.declared.alloc.Global.{Global}
use Rattle.wplan.specs.declared.expr.Further.{Further}
use Rattle.wplan.specs.declared.expr.Expr.{Expr}
use Rattle.wplan.specs.declared.expr.Expr.TheVariants.{Chain, rolls-Chain, In, rolls-In}
use Rattle.wplan.specs.declared.expr.Expr.TheOpen as layer
use Rattle.wplan.specs.declared.expr.Expr.TheFolds.{fold-Expr, fold-roll-Expr, fold_out-Further}
use Rattle.wplan.specs.Formula.{Formula, Operand, Among, chained, formula, formulas, operand_of, expr_step, further_step}

pub operand_is : (l : Further) → operand_of l ≡ record { operator = l.operator; operand = formula l.operand }
unfolding operand_of formula
operand_is l = fold_out-Further Formula Operand expr_step further_step l

pub formula_chain : (first : Box Expr Global) (links : Vec Further Global)
    → formula (Chain first links) ≡ chained (formula first.value) (map operand_of links.items)
unfolding formula operand_of
formula_chain first links = ap (fold-Expr Formula Operand expr_step further_step) (sym (rolls-Chain first links))
    ∙ fold-roll-Expr Formula Operand expr_step further_step (layer.Chain first links)

pub formula_in : (negated : Bool) (operand : Box Expr Global) (list : Vec Expr Global) → formula (In negated operand list)
    ≡ Among negated (formula operand.value) (formulas (map formula list.items))
unfolding formula operand_of
formula_in negated operand list = ap (fold-Expr Formula Operand expr_step further_step)
    (sym (rolls-In negated operand list)) ∙ fold-roll-Expr Formula Operand expr_step further_step (layer.In negated operand list)
