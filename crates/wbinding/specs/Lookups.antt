-- IN a list of constants, which is made to be looked up.
use Rattle.std.specs.Prelude.{Bool, true, false, pos, suc, List}
use Rattle.std.specs.List.{list_all}
use Rattle.wplan.specs.Parts.{Parts}
use Rattle.wplan.specs.declared.expr.Expr.{Expr, out-Expr}
use Rattle.wplan.specs.declared.expr.Expr.TheOpen as layer

abbrev pub is_number_above_zero : Parts → Bool
is_number_above_zero (layer.Number (pos (suc n))) = true
is_number_above_zero _ = false

-- a null, a text, a number that is not below zero, or a minus before one that is above
abbrev pub is_constant : Parts → Bool
is_constant layer.Null = true
is_constant (layer.Text text) = true
is_constant (layer.Number (pos n)) = true
is_constant (layer.Sign true operand) = is_number_above_zero (out-Expr operand.value)
is_constant _ = false

abbrev pub are_constants : List Expr → Bool
are_constants = list_all (λ e. is_constant (out-Expr e))

abbrev pub is_lookup : Parts → Bool
is_lookup (layer.InConstants negated operand list) = true
is_lookup _ = false
