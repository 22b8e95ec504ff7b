-- The types of expressions: integer, text, truth and null, of which null fits integer and text. (SQL, the data types of
-- `<value expression>`; the type of lag and lead is that of the default where the value is NULL.)
use Rattle.std.specs.Prelude.{ℕ, suc, zero, Bool, true, false, ◌||◌, List, [], ◌∷◌, Option, Some, if◌then◌else◌}
use Rattle.std.specs.List.{list_all}
use Rattle.std.specs.Str.{bytes_eq}
use Rattle.wquery.specs.declared.expression.ChainKind.{ChainKind}
use Rattle.wquery.specs.Tree.{Tree, Field, Invoked, Trees, NoTrees, MoreTrees, Given, Everything, These, Columns}
use Rattle.wscope.specs.declared.function.Function.{Function}
use Rattle.wscope.specs.declared.function.Function.TheVariants as functions
use Rattle.wscope.specs.declared.data_type.DataType.{DataType}
use Rattle.wscope.specs.declared.data_type.DataType.TheVariants.{Integer, Text, Truth, Null}
use Rattle.wscope.specs.Functions.{function_of}
use Rattle.wscope.specs.Signature.{chain_signature, known_type, signature_of}

-- a column of a source
pub record Titled : Type 0 where
  pub name : List ℕ
  pub type : DataType

-- where the values come from: the name that may stand before a dot, and the columns
pub record Origin : Type 0 where
  pub alias : List ℕ
  pub columns : List Titled

-- of the first column of this name
abbrev pub type_named : List Titled → List ℕ → DataType
type_named [] name = Null
type_named (c ∷ cs) name = if bytes_eq c.name name then c.type else type_named cs name

-- the place of the first column of this name, or the number of columns where there is none
abbrev pub place_named : List Titled → List ℕ → ℕ
place_named [] name = 0
place_named (c ∷ cs) name = if bytes_eq c.name name then 0 else suc (place_named cs name)

-- of a chain
abbrev pub chain_type : ChainKind → DataType
chain_type kind = known_type (chain_signature kind).gives

-- the type of lag and lead: that of the default where the value is of type null
abbrev pub type_or : DataType → DataType → DataType
type_or Null other = other
type_or Integer other = Integer
type_or Text other = Text
type_or Truth other = Truth

-- of a call, by the types of its value and of its third argument
abbrev pub call_type : Option Function → DataType → DataType → DataType
call_type (Some functions.Lag) value default = type_or value default
call_type (Some functions.Lead) value default = type_or value default
call_type (Some functions.FirstValue) value default = value
call_type (Some functions.LastValue) value default = value
call_type (Some functions.NthValue) value default = value
call_type (Some functions.Min) value default = value
call_type (Some functions.Max) value default = value
call_type _ value default = Integer

abbrev mutual
  -- of an expression: that of its column, that of its call, or else the one that its form gives
  pub type_of : List Titled → Tree → DataType
  type_of cs (Field qualifier name) = type_named cs name
  type_of cs (Invoked name given filter reach) = call_type (function_of name) (given_type cs 0 given) (given_type cs 2 given)
  type_of cs t = known_type (signature_of t).gives

  -- of the argument at a place
  pub given_type : List Titled → ℕ → Given → DataType
  given_type cs n Everything = Null
  given_type cs n (These ts) = type_at cs n ts
  given_type cs n (Columns ts) = Null

  pub type_at : List Titled → ℕ → Trees → DataType
  type_at cs n NoTrees = Null
  type_at cs zero (MoreTrees t ts) = type_of cs t
  type_at cs (suc n) (MoreTrees t ts) = type_at cs n ts

-- a condition
abbrev pub is_truth : DataType → Bool
is_truth Truth = true
is_truth _ = false

-- an integer or null
abbrev pub fits_integer : DataType → Bool
fits_integer Integer = true
fits_integer Null = true
fits_integer _ = false

-- a text or null
abbrev pub fits_text : DataType → Bool
fits_text Text = true
fits_text Null = true
fits_text _ = false

-- values all of one type or null
abbrev pub agree : List DataType → Bool
agree ts = list_all fits_integer ts || list_all fits_text ts
