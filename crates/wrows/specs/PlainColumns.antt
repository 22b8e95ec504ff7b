-- Expressions that are plain columns.
use Rattle.std.specs.Prelude.{ℕ, Bool, Option, Some, None}
use Rattle.std.specs.Borrow.{Bor}
use Rattle.std.specs.Option.{is_some}
use Rattle.wplan.specs.declared.expr.Expr.{Expr, out-Expr}
use Rattle.wplan.specs.declared.expr.Expr.TheOpen as layer
use Rattle.wplan.specs.Parts.{Parts}

-- the place that an expression names, if it is no more than that
abbrev pub plain_place : Parts → Option ℕ
plain_place (layer.Place place) = Some place
plain_place _ = None

abbrev pub is_plain : Bor Expr → Bool
is_plain e = is_some (plain_place (out-Expr e.now))
