-- How tests are gathered from the operands of a condition, one after another.
use Rattle.std.specs.Prelude.{◌≡◌, ◌&&◌, List}
use Rattle.wvalues.specs.Meaning.{Meaning, Int}
use Rattle.wquery.specs.declared.expression.Comparison.{Comparison}
use Rattle.wplan.specs.Formula.{Formula, Operand, Constant, At}
use Rattle.weval.specs.Values.{Judged, Outcome, is_yes, truth_of, value_along, value_of}
use Rattle.weval.specs.NumberTests.{passes_all}
use Rattle.weval.specs.declared.comparing.NumberTest.{NumberTest}

-- the test of a comparison
pub record IsTestOf (c : Comparison) (l r : Formula) (test : NumberTest) : Type 0 where
  pub comparison : test.comparison ≡ c
  pub place : l ≡ At test.place
  pub number : r ≡ Constant (Int test.number)

-- behind some tests stand those of a condition, which is a truth on every row
pub record Adds (old new : List NumberTest) (t : Formula) : Type 0 where
  pub judged : (row : List Meaning) → value_of row t ≡ Judged (truth_of (value_of row t))
  pub truth : (row : List Meaning) → passes_all new row ≡ (passes_all old row && is_yes (truth_of (value_of row t)))

-- some tests decide a truth
pub record Agrees (tests : List NumberTest) (row : List Meaning) (o : Outcome) : Type 0 where
  pub judged : o ≡ Judged (truth_of o)
  pub truth : passes_all tests row ≡ is_yes (truth_of o)

-- behind tests that decide the operands so far stand those of further operands
abbrev pub Joins : List NumberTest → List NumberTest → List Operand → Type 0
Joins old new operands = (row : List Meaning) (o : Outcome) → Agrees old row o → Agrees new row (value_along row o operands)
