-- The type of an expression over a row whose cells have these types (the syntax rules of <value expression>, <search
-- condition>, <comparison predicate>, <between predicate>, <in predicate> and <null predicate>). It has none where a place
-- is behind the row, or an operand is of another type than stands there.
use Rattle.std.specs.Prelude.{ℕ, zero, suc, Bool, true, false, ◌&&◌, List, [], ◌∷◌, Option, Some, None}
use Rattle.wquery.specs.declared.expression.Operator.{Operator}
use Rattle.wquery.specs.declared.expression.Operator.TheVariants.{Or, And, Plus, Minus, Times}
use Rattle.wvalues.specs.Meaning as meanings
use Rattle.wvalues.specs.Meaning.{Meaning}
use Rattle.wscope.specs.declared.data_type.DataType.{DataType}
use Rattle.wscope.specs.declared.data_type.DataType.TheVariants.{Integer, Text, Truth, Null}
use Rattle.wscope.specs.Types.{is_truth}
use Rattle.wplan.specs.Formula.{Formula, Constant, At, Negation, Signed, Applied, Compared, NullTest}
use Rattle.wplan.specs.Formula.{Within, Among, Formulas, NoFormulas, MoreFormulas}

-- of the cell at a place, counted from 0
abbrev pub type_at : ℕ → List DataType → Option DataType
type_at n [] = None
type_at zero (t ∷ ts) = Some t
type_at (suc n) (t ∷ ts) = type_at n ts

-- of a value that is written out
abbrev pub constant_type : Meaning → DataType
constant_type meanings.Null = Null
constant_type (meanings.Int z) = Integer
constant_type (meanings.Text bytes) = Text

-- there is a type, and it passes
abbrev pub has : (DataType → Bool) → Option DataType → Bool
has passes None = false
has passes (Some t) = passes t

-- an integer, or null in its place
abbrev pub is_number : DataType → Bool
is_number Integer = true
is_number Null = true
is_number _ = false

-- AND and OR take truths and give one, sums and products take numbers
abbrev pub takes : Operator → DataType → Bool
takes Or t = is_truth t
takes And t = is_truth t
takes Plus t = is_number t
takes Minus t = is_number t
takes Times t = is_number t

abbrev pub gives : Operator → DataType
gives Or = Truth
gives And = Truth
gives Plus = Integer
gives Minus = Integer
gives Times = Integer

-- of values that may be compared: of one type, or of null and another one
abbrev pub common : DataType → DataType → Option DataType
common Integer Integer = Some Integer
common Integer Null = Some Integer
common Text Text = Some Text
common Text Null = Some Text
common Null Integer = Some Integer
common Null Text = Some Text
common Null Null = Some Null
common _ _ = None

abbrev pub beside : Option DataType → Option DataType → Option DataType
beside (Some a) (Some b) = common a b
beside _ _ = None

-- of a value, which a truth is not
abbrev pub valued : Option DataType → Option DataType
valued None = None
valued (Some Integer) = Some Integer
valued (Some Text) = Some Text
valued (Some Truth) = None
valued (Some Null) = Some Null

-- this type, where the condition holds
abbrev pub where_holds : Bool → DataType → Option DataType
where_holds true t = Some t
where_holds false t = None

-- a truth, where there is a type
abbrev pub judged : Option DataType → Option DataType
judged None = None
judged (Some t) = Some Truth

abbrev mutual
  pub formula_type : List DataType → Formula → Option DataType
  formula_type ts (Constant m) = Some (constant_type m)
  formula_type ts (At place) = type_at place ts
  formula_type ts (Negation f) = where_holds (has is_truth (formula_type ts f)) Truth
  formula_type ts (Signed minus f) = where_holds (has is_number (formula_type ts f)) Integer
  formula_type ts (Applied operator f g) =
      where_holds (has (takes operator) (formula_type ts f) && has (takes operator) (formula_type ts g)) (gives operator)
  formula_type ts (Compared comparison f g) = judged (beside (formula_type ts f) (formula_type ts g))
  formula_type ts (NullTest negated f) = judged (formula_type ts f)
  formula_type ts (Within negated f low high) = judged (beside (beside (formula_type ts f) (formula_type ts low)) (formula_type ts high))
  formula_type ts (Among negated f list) = judged (beside_all ts (valued (formula_type ts f)) list)

  -- of all that stand in a list, and of what stands before it
  pub beside_all : List DataType → Option DataType → Formulas → Option DataType
  beside_all ts t NoFormulas = t
  beside_all ts t (MoreFormulas f fs) = beside_all ts (beside t (formula_type ts f)) fs
