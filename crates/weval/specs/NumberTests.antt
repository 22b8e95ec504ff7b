-- Conditions that compare what a row has at places with numbers.
use Rattle.std.specs.Prelude.{◌≡◌, Bool, true, false, not, ◌&&◌, List, get_or}
use Rattle.std.specs.List.{list_all}
use Rattle.wquery.specs.declared.expression.Operator.{Operator}
use Rattle.wquery.specs.declared.expression.Operator.TheVariants.{And}
use Rattle.wvalues.specs.Meaning.{Meaning, Null, Int}
use Rattle.wplan.specs.Formula.{Formula}
use Rattle.wplan.specs.Parts.{Parts}
use Rattle.wplan.specs.declared.expr.Expr.{out-Expr}
use Rattle.wplan.specs.declared.expr.Expr.TheOpen as layer
use Rattle.wplan.specs.declared.expr.Further.{Further}
use Rattle.weval.specs.Values.{compared, is_too_large, is_yes, truth_of, value_of}
use Rattle.weval.specs.declared.comparing.NumberTest.{NumberTest}

-- the value at a place
abbrev pub is_place : Parts → Bool
is_place (layer.Place place) = true
is_place _ = false

-- a number by itself
abbrev pub is_number : Parts → Bool
is_number (layer.Number n) = true
is_number _ = false

-- a comparison of the value at a place with a number, or whether it lies between two numbers
abbrev pub is_number_test : Parts → Bool
is_number_test (layer.Compare comparison l r) = is_place (out-Expr l.value) && is_number (out-Expr r.value)
is_number_test (layer.Between negated e low high) = not negated && (is_place (out-Expr e.value)
    && (is_number (out-Expr low.value) && is_number (out-Expr high.value)))
is_number_test _ = false

abbrev pub is_and : Operator → Bool
is_and And = true
is_and _ = false

-- a further operand that is one of these, behind an AND
abbrev pub is_number_link : Further → Bool
is_number_link l = is_and l.operator && is_number_test (out-Expr l.operand)

-- one of these, or several of them joined by AND
abbrev pub are_number_tests : Parts → Bool
are_number_tests (layer.Chain first links) = is_number_test (out-Expr first.value) && list_all is_number_link links.items
are_number_tests e = is_number_test e

-- whether the value at the place compares so with the number
abbrev pub passes : List Meaning → NumberTest → Bool
passes row test = is_yes (compared test.comparison (get_or row test.place Null) (Int test.number))

-- whether a row passes all tests
abbrev pub passes_all : List NumberTest → List Meaning → Bool
passes_all tests row = list_all (passes row) tests

-- a condition is out of range on no row, and true just on those that pass all tests
pub record Decide (tests : List NumberTest) (t : Formula) : Type 0 where
  pub in_range : (row : List Meaning) → is_too_large (value_of row t) ≡ false
  pub truth : (row : List Meaning) → is_yes (truth_of (value_of row t)) ≡ passes_all tests row
