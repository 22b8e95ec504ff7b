-- Expressions that are read where they lie.
use Rattle.std.specs.Prelude.{ℕ, Bool, true, false, nat_lt}
use Rattle.wplan.specs.Parts.{Parts}
use Rattle.wplan.specs.declared.expr.Expr.TheOpen as layer

-- a value by itself, or one at a place
abbrev pub is_leaf : Parts → Bool
is_leaf layer.Null = true
is_leaf (layer.Number n) = true
is_leaf (layer.Text text) = true
is_leaf (layer.Place place) = true
is_leaf _ = false

-- the value at one of so many places
abbrev pub is_place_below : ℕ → Parts → Bool
is_place_below count (layer.Place place) = nat_lt place count
is_place_below count _ = false
