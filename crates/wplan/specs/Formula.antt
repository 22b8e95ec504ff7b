-- What an expression over a row says, wherever its parts lie in memory (<value expression>, <search condition>).
use Rattle.std.specs.Prelude.{ℕ, suc, pos, negsuc, Bool, true, List, [], ◌∷◌, map}
use Rattle.std.specs.Rc.{rc_str_bytes}
use Rattle.wquery.specs.declared.expression.Operator.{Operator}
use Rattle.wquery.specs.declared.expression.Comparison.{Comparison}
use Rattle.wvalues.specs.Meaning.{Meaning, Null, Int, Text}
use Rattle.wplan.specs.declared.expr.Expr.{Expr}
use Rattle.wplan.specs.declared.expr.Further.{Further}
use Rattle.wplan.specs.declared.expr.Expr.TheOpen as layer
use Rattle.wplan.specs.declared.expr.Expr.TheFolds.{fold-Expr, fold-Further}

mutual
  -- an expression over a row
  pub data Formula : Type 0 where
    Constant : Meaning → Formula
    At : ℕ → Formula
    Negation : Formula → Formula
    -- whether the sign is a minus
    Signed : Bool → Formula → Formula
    Applied : Operator → Formula → Formula → Formula
    Compared : Comparison → Formula → Formula → Formula
    -- whether it is negated, here and below
    NullTest : Bool → Formula → Formula
    Within : Bool → Formula → Formula → Formula → Formula
    Among : Bool → Formula → Formulas → Formula

  pub data Formulas : Type 0 where
    NoFormulas : Formulas
    MoreFormulas : Formula → Formulas → Formulas

pub record Operand : Type 0 where
  pub operator : Operator
  pub operand : Formula

abbrev pub formulas : List Formula → Formulas
formulas [] = NoFormulas
formulas (x ∷ xs) = MoreFormulas x (formulas xs)

-- a chain associates to the left
abbrev pub chained : Formula → List Operand → Formula
chained first [] = first
chained first (l ∷ ls) = chained (Applied l.operator first l.operand) ls

-- a constant as it is written: a number below zero has a minus
abbrev pub constant : Meaning → Formula
constant Null = Constant Null
constant (Int (pos n)) = Constant (Int (pos n))
constant (Int (negsuc n)) = Signed true (Constant (Int (pos (suc n))))
constant (Text text) = Constant (Text text)

abbrev pub expr_step : layer.Expr-F Formula Operand → Formula
expr_step layer.Null = Constant Null
expr_step (layer.Number n) = Constant (Int n)
expr_step (layer.Text text) = Constant (Text (rc_str_bytes text))
expr_step (layer.Place place) = At place
expr_step (layer.Not e) = Negation e.value
expr_step (layer.Sign minus e) = Signed minus e.value
expr_step (layer.Chain first links) = chained first.value links.items
expr_step (layer.Compare comparison l r) = Compared comparison l.value r.value
expr_step (layer.IsNull negated e) = NullTest negated e.value
expr_step (layer.Between negated e low high) = Within negated e.value low.value high.value
expr_step (layer.In negated e list) = Among negated e.value (formulas list.items)
expr_step (layer.InConstants negated e list) = Among negated e.value (formulas (map constant list))

abbrev pub further_step : layer.Further-F Formula Operand → Operand
further_step l = record { operator = l.operator; operand = l.operand }

-- what an expression says
unfoldable pub formula : Expr → Formula
formula e = fold-Expr Formula Operand expr_step further_step e

unfoldable pub operand_of : Further → Operand
operand_of l = fold-Further Formula Operand expr_step further_step l
