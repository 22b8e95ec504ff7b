-- An expression taken apart.
use Rattle.wplan.specs.declared.expr.Expr.{Expr}
use Rattle.wplan.specs.declared.expr.Further.{Further}
use Rattle.wplan.specs.declared.expr.Expr.TheOpen as layer

-- an expression of which each part is one
abbrev pub Parts : Type 0
Parts = layer.Expr-F Expr Further
