-- What an expression comes to where nothing stands in for an operand of another type, nor for a cell that the row lacks:
-- there is no outcome then. Beside that it is what execution reads.
use Rattle.std.specs.Prelude.{◌≡◌, ℤ, neg_ℤ, ◌+ℤ◌, ◌-ℤ◌, ◌*ℤ◌, ℕ, zero, suc, Bool, true, false, ◌&&◌, List, [], ◌∷◌, Option, Some, None}
use Rattle.std.specs.Ordering.{int_cmp, nat_cmp}
use Rattle.std.specs.Cmp.Lexicographic.{slice_cmp}
use Rattle.wquery.specs.declared.expression.Operator.{Operator}
use Rattle.wquery.specs.declared.expression.Operator.TheVariants.{Or, And, Plus, Minus, Times}
use Rattle.wquery.specs.declared.expression.Comparison.{Comparison}
use Rattle.wquery.specs.declared.expression.Comparison.TheVariants.{GreaterOrEqual, LessOrEqual, Equal}
use Rattle.wvalues.specs.Whole.{if_whole}
use Rattle.wvalues.specs.Meaning.{Meaning, Null, Int, Text}
use Rattle.wvalues.specs.Truth.{both, either, opposite}
use Rattle.wvalues.specs.declared.truth.Truth.{Truth}
use Rattle.wvalues.specs.declared.truth.Truth.TheVariants.{No}
use Rattle.wscope.specs.declared.data_type.DataType.{DataType}
use Rattle.wscope.specs.declared.data_type.DataType.TheVariants as types
use Rattle.wplan.specs.Formula.{Formula, Constant, At, Negation, Signed, Applied, Compared, NullTest}
use Rattle.wplan.specs.Formula.{Within, Among, Formulas, NoFormulas, MoreFormulas}
use Rattle.weval.specs.Values.{Outcome, Held, Judged, TooLarge, ranged, judged, turned, is_null, value_of}
use Rattle.wtyped.specs.Typing.{formula_type}

-- a value of a type; null is one of each type of values
abbrev pub is_of : DataType → Meaning → Bool
is_of types.Integer Null = true
is_of types.Integer (Int z) = true
is_of types.Text Null = true
is_of types.Text (Text bytes) = true
is_of types.Null Null = true
is_of _ _ = false

-- a row whose cells are of these types, and there are as many
abbrev pub are_of : List DataType → List Meaning → Bool
are_of [] [] = true
are_of (t ∷ ts) (m ∷ ms) = is_of t m && are_of ts ms
are_of _ _ = false

-- out of range, or of a type
abbrev pub comes_as : DataType → Outcome → Bool
comes_as t TooLarge = true
comes_as t (Held m) = is_of t m
comes_as types.Truth (Judged x) = true
comes_as _ (Judged x) = false

-- the cell at a place
abbrev pub cell_at : ℕ → List Meaning → Option Outcome
cell_at n [] = None
cell_at zero (m ∷ ms) = Some (Held m)
cell_at (suc n) (m ∷ ms) = cell_at n ms

-- what is made of an outcome that is there, unless it is out of range
abbrev pub made_of : Option Outcome → (Outcome → Option Outcome) → Option Outcome
made_of None f = None
made_of (Some (Held m)) f = f (Held m)
made_of (Some (Judged t)) f = f (Judged t)
made_of (Some TooLarge) f = Some TooLarge

-- what is made of a truth
abbrev pub of_truth : (Truth → Truth) → Outcome → Option Outcome
of_truth f (Judged t) = Some (Judged (f t))
of_truth f _ = None

abbrev pub of_truths : (Truth → Truth → Truth) → Outcome → Outcome → Option Outcome
of_truths f (Judged a) (Judged b) = Some (Judged (f a b))
of_truths f _ _ = None

-- arithmetic on numbers, and null beside null or a number
abbrev pub of_numbers : (ℤ → ℤ → ℤ) → Outcome → Outcome → Option Outcome
of_numbers f (Held (Int x)) (Held (Int y)) = Some (ranged (if_whole (f x y)))
of_numbers f (Held Null) (Held (Int y)) = Some (Held Null)
of_numbers f (Held (Int x)) (Held Null) = Some (Held Null)
of_numbers f (Held Null) (Held Null) = Some (Held Null)
of_numbers f _ _ = None

abbrev pub applied : Operator → Outcome → Outcome → Option Outcome
applied Or x y = of_truths either x y
applied And x y = of_truths both x y
applied Plus x y = of_numbers (λ a b. a +ℤ b) x y
applied Minus x y = of_numbers (λ a b. a -ℤ b) x y
applied Times x y = of_numbers (λ a b. a *ℤ b) x y

-- a number behind its sign; whether that is a minus
abbrev pub signed : Bool → Outcome → Option Outcome
signed true (Held (Int x)) = Some (Held (Int (neg_ℤ x)))
signed false (Held (Int x)) = Some (Held (Int x))
signed minus (Held Null) = Some (Held Null)
signed minus _ = None

-- a comparison of numbers, of texts, or with null
abbrev pub compared : Comparison → Outcome → Outcome → Option Truth
compared c (Held (Int x)) (Held (Int y)) = Some (judged c (Some (int_cmp x y)))
compared c (Held (Text x)) (Held (Text y)) = Some (judged c (Some (slice_cmp nat_cmp x y)))
compared c (Held Null) (Held m) = Some (judged c None)
compared c (Held m) (Held Null) = Some (judged c None)
compared c _ _ = None

abbrev pub outcome_of : Option Truth → Option Outcome
outcome_of None = None
outcome_of (Some t) = Some (Judged t)

abbrev pub joined : (Truth → Truth → Truth) → Option Truth → Option Truth → Option Truth
joined f (Some a) (Some b) = Some (f a b)
joined f _ _ = None

-- `x >= low AND x <= high`
abbrev pub between : Outcome → Outcome → Outcome → Option Truth
between x low high = joined both (compared GreaterOrEqual x low) (compared LessOrEqual x high)

abbrev mutual
  pub exact_value : List Meaning → Formula → Option Outcome
  exact_value row (Constant m) = Some (Held m)
  exact_value row (At place) = cell_at place row
  exact_value row (Negation f) = made_of (exact_value row f) (of_truth opposite)
  exact_value row (Signed minus f) = made_of (exact_value row f) (signed minus)
  exact_value row (Applied operator f g) = made_of (exact_value row f) (λ x. made_of (exact_value row g) (λ y. applied operator x y))
  exact_value row (Compared c f g) = made_of (exact_value row f) (λ x. made_of (exact_value row g) (λ y. outcome_of (compared c x y)))
  exact_value row (NullTest negated f) = made_of (exact_value row f) (λ x. Some (Judged (turned negated (is_null x))))
  exact_value row (Within negated f low high) =
      made_of (exact_value row f) (λ x. made_of (exact_value row low) (λ y. made_of (exact_value row high) (λ z.
      made_of (outcome_of (between x y z)) (of_truth (turned negated)))))
  exact_value row (Among negated f list) =
      made_of (exact_value row f) (λ x. made_of (exact_among row x (Some No) list) (of_truth (turned negated)))

  -- `x = a OR x = b OR ..`, joined to what was found so far
  pub exact_among : List Meaning → Outcome → Option Truth → Formulas → Option Outcome
  exact_among row x found NoFormulas = outcome_of found
  exact_among row x found (MoreFormulas f fs) =
      made_of (exact_value row f) (λ y. exact_among row x (joined either found (compared Equal x y)) fs)

-- an expression of a type comes to a value of that type, or out of range, and nothing stands in for what it lacks
abbrev pub TypedIsExact : Type 0
TypedIsExact = (ts : List DataType) (row : List Meaning) (f : Formula) (t : DataType)
    → are_of ts row ≡ true → formula_type ts f ≡ Some t → (exact_value row f ≡ Some (value_of row f)) × (comes_as t (value_of row f) ≡ true)
