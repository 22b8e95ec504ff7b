-- The type of each form of expression.
use Rattle.std.specs.Prelude.{◌≡◌, ℕ, Bool, List, Option}
use Rattle.wquery.specs.declared.expression.ChainKind.TheVariants.{Disjunction, Conjunction, Sum, Product}
use Rattle.wquery.specs.declared.expression.Comparison.{Comparison}
use Rattle.wquery.specs.Tree.{Tree, NullWord, Numeral, Quoted, Field, Invoked, Negated, Signed, Joined, Compared, NullTest}
use Rattle.wquery.specs.Tree.{Within, Among, Trees, Links, Given, Filter, Reach}
use Rattle.wscope.specs.declared.data_type.DataType.TheVariants.{Integer, Text, Truth, Null}
use Rattle.wscope.specs.Functions.{function_of}
use Rattle.wscope.specs.Types.{Titled, call_type, given_type, type_named, type_of}

-- literals have their own types, a column its declared one, a call that of its function, a condition truth and a sum integer
pub record TypesGiven : Type 0 where
  pub of_null : (cs : List Titled) → type_of cs NullWord ≡ Null
  pub of_number : (cs : List Titled) (n : ℕ) → type_of cs (Numeral n) ≡ Integer
  pub of_text : (cs : List Titled) (text : List ℕ) → type_of cs (Quoted text) ≡ Text
  pub of_column : (cs : List Titled) (qualifier : Option (List ℕ)) (name : List ℕ)
      → type_of cs (Field qualifier name) ≡ type_named cs name
  pub of_call : (cs : List Titled) (name : List ℕ) (given : Given) (filter : Filter) (reach : Reach)
      → type_of cs (Invoked name given filter reach) ≡ call_type (function_of name) (given_type cs 0 given) (given_type cs 2 given)
  pub of_not : (cs : List Titled) (t : Tree) → type_of cs (Negated t) ≡ Truth
  pub of_sign : (cs : List Titled) (minus : Bool) (t : Tree) → type_of cs (Signed minus t) ≡ Integer
  pub of_or : (cs : List Titled) (t : Tree) (links : Links) → type_of cs (Joined Disjunction t links) ≡ Truth
  pub of_and : (cs : List Titled) (t : Tree) (links : Links) → type_of cs (Joined Conjunction t links) ≡ Truth
  pub of_sum : (cs : List Titled) (t : Tree) (links : Links) → type_of cs (Joined Sum t links) ≡ Integer
  pub of_product : (cs : List Titled) (t : Tree) (links : Links) → type_of cs (Joined Product t links) ≡ Integer
  pub of_comparison : (cs : List Titled) (comparison : Comparison) (l r : Tree) → type_of cs (Compared comparison l r) ≡ Truth
  pub of_null_test : (cs : List Titled) (negated : Bool) (t : Tree) → type_of cs (NullTest negated t) ≡ Truth
  pub of_between : (cs : List Titled) (negated : Bool) (t l h : Tree) → type_of cs (Within negated t l h) ≡ Truth
  pub of_in : (cs : List Titled) (negated : Bool) (t : Tree) (list : Trees) → type_of cs (Among negated t list) ≡ Truth
