-- The type of the argument at a place, and of a call.
use Rattle.std.proofs.Common.{◌≡◌, ℕ, zero, suc, ◌<◌, ◌≤◌, List, [], ◌∷◌, length, get_or, refl, ap, sym, ◌∙◌, arith, Option}
use Rattle.std.specs.declared.alloc.Global.{Global}
use Rattle.std.specs.declared.vec.Vec.{Vec}
use Rattle.wquery.specs.declared.expression.Arguments.{Arguments}
use Rattle.wquery.specs.declared.expression.Arguments.TheVariants as given
use Rattle.wquery.specs.declared.expression.Call.{Call}
use Rattle.wquery.specs.declared.expression.Expression.{Expression}
use Rattle.std.specs.Rc.{rc_str_bytes}
use Rattle.wquery.specs.Tree.{view, views, trees, view_call, view_arguments}
use Rattle.wscope.specs.declared.data_type.DataType.{DataType}
use Rattle.wscope.specs.declared.data_type.DataType.TheVariants.{Null}
use Rattle.wscope.specs.declared.function.Function.{Function}
use Rattle.wscope.specs.Functions.{function_of}
use Rattle.wscope.specs.Laws.{TypesGiven}
use Rattle.wscope.specs.Types.{Titled, type_of, type_at, given_type, call_type}
use Rattle.wnodes.proofs.Equal.{view_of_listed}
use Rattle.wnodes.proofs.Views.{view_call_is}

pub type_at_end : (cs : List Titled) (xs : List Expression) (n : ℕ) → length xs ≤ n → type_at cs n (trees (views xs)) ≡ Null
type_at_end cs [] n h = refl
type_at_end cs (x ∷ xs) zero h = absurd (omega arith)
type_at_end cs (x ∷ xs) (suc n) h = type_at_end cs xs n (omega arith)

pub type_at_here : (cs : List Titled) (xs : List Expression) (n : ℕ) (e : Expression) → n < length xs → e ≡ get_or xs n e
    → type_at cs n (trees (views xs)) ≡ type_of cs (view e)
type_at_here cs [] n e h is = absurd (omega arith)
type_at_here cs (x ∷ xs) zero e h is = ap (λ (y : Expression). type_of cs (view y)) (sym is)
type_at_here cs (x ∷ xs) (suc n) e h is = type_at_here cs xs n e (omega arith) is

pub call_type_is : (cs : List Titled) (c : Call) → type_of cs (view_call c) ≡ call_type (function_of (rc_str_bytes c.name))
    (given_type cs 0 (view_arguments c.arguments)) (given_type cs 2 (view_arguments c.arguments))
call_type_is cs c = ap (type_of cs) (view_call_is c)

pub call_type_from : (cs : List Titled) (c : Call) (name : List ℕ) (f : Option Function) (v d : DataType)
    → f ≡ function_of name → name ≡ rc_str_bytes c.name → v ≡ given_type cs 0 (view_arguments c.arguments)
    → d ≡ given_type cs 2 (view_arguments c.arguments) → call_type f v d ≡ type_of cs (view_call c)
call_type_from cs c name f v d ef en ev ed =
    rw (ef, en, ev, ed) (sym (call_type_is cs c))

pub type_listed : (cs : List Titled) (a : Arguments) (n : ℕ) (v : Vec Expression Global) (us : List Expression) (t : DataType)
    → a ≡ given.Listed v → us ≡ v.items → t ≡ type_at cs n (trees (views us)) → t ≡ given_type cs n (view_arguments a)
type_listed cs a n v us t ea eu et =
    et ∙ ap (λ (es : List Expression). type_at cs n (trees (views es))) eu
    ∙ sym (ap (λ (x : Arguments). given_type cs n (view_arguments x)) ea ∙ ap (given_type cs n) (view_of_listed v))

pub types_given : TypesGiven
types_given = record {
  of_null = λ cs. refl;
  of_number = λ cs n. refl;
  of_text = λ cs text. refl;
  of_column = λ cs qualifier name. refl;
  of_call = λ cs name given filter reach. refl;
  of_not = λ cs t. refl;
  of_sign = λ cs minus t. refl;
  of_or = λ cs t links. refl;
  of_and = λ cs t links. refl;
  of_sum = λ cs t links. refl;
  of_product = λ cs t links. refl;
  of_comparison = λ cs comparison l r. refl;
  of_null_test = λ cs negated t. refl;
  of_between = λ cs negated t l h. refl;
  of_in = λ cs negated t list. refl;
}
