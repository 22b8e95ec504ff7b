-- What an expression comes to on a row (<value expression>, <comparison predicate>, <between predicate>, <in predicate>, <null
-- predicate>, <boolean value expression>): a value, a truth, or out of range. Nothing is skipped, so it is out of range where
-- any part of it is.
use Rattle.std.specs.Prelude.{ℤ, neg_ℤ, ◌+ℤ◌, ◌-ℤ◌, ◌*ℤ◌, Bool, true, false, not, List, [], ◌∷◌, Option, Some, None, get_or, if◌then◌else◌}
use Rattle.std.specs.Ordering.{int_cmp, nat_cmp, is_eq, is_lt, is_gt}
use Rattle.std.specs.Cmp.Lexicographic.{slice_cmp}
use Rattle.std.specs.declared.cmp.Ordering.{Ordering}
use Rattle.wquery.specs.declared.expression.Operator.{Operator}
use Rattle.wquery.specs.declared.expression.Operator.TheVariants.{Or, And, Plus, Minus, Times}
use Rattle.wquery.specs.declared.expression.Comparison.{Comparison}
use Rattle.wquery.specs.declared.expression.Comparison.TheVariants.{Equal, NotEqual, Less, LessOrEqual, Greater, GreaterOrEqual}
use Rattle.wvalues.specs.Whole.{if_whole}
use Rattle.wvalues.specs.Meaning.{Meaning, Null, Int, Text}
use Rattle.wvalues.specs.Truth.{both, either, opposite}
use Rattle.wvalues.specs.declared.truth.Truth.{Truth}
use Rattle.wvalues.specs.declared.truth.Truth.TheVariants.{Yes, No, Unknown}
use Rattle.wplan.specs.Formula.{Formula, Operand, Constant, At, Negation, Signed, Applied, Compared}
use Rattle.wplan.specs.Formula.{NullTest, Within, Among, Formulas, NoFormulas, MoreFormulas}

-- what an expression comes to on a row
pub data Outcome : Type 0 where
  Held : Meaning → Outcome
  Judged : Truth → Outcome
  TooLarge : Outcome

-- a number, where there is one in range
abbrev pub ranged : Option ℤ → Outcome
ranged None = TooLarge
ranged (Some z) = Held (Int z)

-- arithmetic on two values; on a null it gives null
abbrev pub on_numbers : (ℤ → ℤ → ℤ) → Meaning → Meaning → Outcome
on_numbers f (Int x) (Int y) = ranged (if_whole (f x y))
on_numbers f _ _ = Held Null

-- what a condition says; what is no condition is unknown
abbrev pub truth_of : Outcome → Truth
truth_of (Judged t) = t
truth_of _ = Unknown

-- the value; what is none is null
abbrev pub value_in : Outcome → Meaning
value_in (Held m) = m
value_in _ = Null

-- an operator between two parts
abbrev pub apply : Operator → Outcome → Outcome → Outcome
apply Or x y = Judged (either (truth_of x) (truth_of y))
apply And x y = Judged (both (truth_of x) (truth_of y))
apply Plus x y = on_numbers (λ a b. a +ℤ b) (value_in x) (value_in y)
apply Minus x y = on_numbers (λ a b. a -ℤ b) (value_in x) (value_in y)
apply Times x y = on_numbers (λ a b. a *ℤ b) (value_in x) (value_in y)

-- how two values stand: numbers by size, texts by bytes; a null stands in no order
abbrev pub order_of : Meaning → Meaning → Option Ordering
order_of (Int x) (Int y) = Some (int_cmp x y)
order_of (Text x) (Text y) = Some (slice_cmp nat_cmp x y)
order_of _ _ = None

-- whether an order is what a comparison asks for
abbrev pub meets : Comparison → Ordering → Bool
meets Equal o = is_eq o
meets NotEqual o = not (is_eq o)
meets Less o = is_lt o
meets LessOrEqual o = not (is_gt o)
meets Greater o = is_gt o
meets GreaterOrEqual o = not (is_lt o)

-- unknown where there is no order
abbrev pub judged : Comparison → Option Ordering → Truth
judged c None = Unknown
judged c (Some o) = if meets c o then Yes else No

abbrev pub compared : Comparison → Meaning → Meaning → Truth
compared c x y = judged c (order_of x y)

-- NOT, where it stands
abbrev pub turned : Bool → Truth → Truth
turned negated t = if negated then opposite t else t

-- whether it is null, as an unknown truth is
abbrev pub is_null : Outcome → Truth
is_null (Held Null) = Yes
is_null (Judged Unknown) = Yes
is_null _ = No

-- `x >= low AND x <= high`
abbrev pub between : Meaning → Meaning → Meaning → Truth
between x low high = both (compared GreaterOrEqual x low) (compared LessOrEqual x high)

-- a sign; whether it is a minus
abbrev pub signed : Bool → Meaning → Outcome
signed true (Int x) = Held (Int (neg_ℤ x))
signed false (Int x) = Held (Int x)
signed _ _ = Held Null

-- what is made of a part, unless that is out of range
abbrev pub after : Outcome → (Outcome → Outcome) → Outcome
after (Held m) f = f (Held m)
after (Judged t) f = f (Judged t)
after TooLarge f = TooLarge

abbrev mutual
  -- what an expression comes to on a row
  pub value_of : List Meaning → Formula → Outcome
  value_of row (Constant m) = Held m
  value_of row (At place) = Held (get_or row place Null)
  value_of row (Negation t) = after (value_of row t) (λ x. Judged (opposite (truth_of x)))
  value_of row (Signed minus t) = after (value_of row t) (λ x. signed minus (value_in x))
  value_of row (Applied operator l r) = after (value_of row l) (λ x. after (value_of row r) (λ y. apply operator x y))
  value_of row (Compared c l r) = after (value_of row l) (λ x. after (value_of row r) (λ y. Judged (compared c (value_in x) (value_in y))))
  value_of row (NullTest negated t) = after (value_of row t) (λ x. Judged (turned negated (is_null x)))
  value_of row (Within negated t l h) = after (value_of row t)
      (λ x. after (value_of row l) (λ y. after (value_of row h)
      (λ z. Judged (turned negated (between (value_in x) (value_in y) (value_in z))))))
  value_of row (Among negated t list) = after (value_of row t) (λ x. after (is_among row (value_in x) No list)
      (λ found. Judged (turned negated (truth_of found))))

  -- `x = a OR x = b OR ..`, joined to what was found so far
  pub is_among : List Meaning → Meaning → Truth → Formulas → Outcome
  is_among row x found NoFormulas = Judged found
  is_among row x found (MoreFormulas t ts) = after (value_of row t) (λ y. is_among row x (either found (compared Equal x (value_in y))) ts)

-- a chain of which the operands so far come to this
abbrev pub value_along : List Meaning → Outcome → List Operand → Outcome
value_along row x [] = x
value_along row x (l ∷ ls) = value_along row (after x (λ x. after (value_of row l.operand) (λ y. apply l.operator x y))) ls

-- the same by what it comes to: whether it is out of range, its value, and whether it is true
abbrev pub is_too_large : Outcome → Bool
is_too_large TooLarge = true
is_too_large _ = false

abbrev pub is_yes : Truth → Bool
is_yes Yes = true
is_yes _ = false
