-- What a call is given, by its places.
use Rattle.std.proofs.Common.{◌≡◌, ℕ, zero, suc, ◌<◌, ◌≤◌, Bool, true, not, List, [], ◌∷◌, length, get_or, refl, ap, sym, arith, Option}
use Rattle.std.specs.Rc.{rc_str_bytes}
use Rattle.wquery.specs.declared.expression.Call.{Call}
use Rattle.wquery.specs.declared.expression.Expression.{Expression}
use Rattle.wquery.specs.Tree.{Tree, view, views, trees, view_call, view_arguments}
use Rattle.wnodes.proofs.Views.{view_call_is}
use Rattle.wscope.specs.declared.function.Function.{Function}
use Rattle.wnodes.specs.Nodes.{count_trees}
use Rattle.wscope.specs.Functions.{function_of}
use Rattle.wnames.specs.Calls.{passes_at, is_well_given, is_bad_call, counts_some, is_zeroth}

pub passes_end : (holds : Tree → Bool) (xs : List Expression) (n : ℕ) → length xs ≤ n → passes_at n holds (trees (views xs)) ≡ true
passes_end holds [] n h = refl
passes_end holds (x ∷ xs) zero h = absurd (omega arith)
passes_end holds (x ∷ xs) (suc n) h = passes_end holds xs n (omega arith)

pub passes_here : (holds : Tree → Bool) (xs : List Expression) (n : ℕ) (e : Expression) → n < length xs → e ≡ get_or xs n e
    → passes_at n holds (trees (views xs)) ≡ holds (view e)
passes_here holds [] n e h is = absurd (omega arith)
passes_here holds (x ∷ xs) zero e h is = ap (λ (y : Expression). holds (view y)) (sym is)
passes_here holds (x ∷ xs) (suc n) e h is = passes_here holds xs n e (omega arith) is

pub count_is : (xs : List Expression) → count_trees (trees (views xs)) ≡ length xs
count_is [] = refl
count_is (x ∷ xs) = ap suc (count_is xs)

pub bad_call_is : (c : Call) (name : List ℕ) (f : Option Function) (given : Bool) → f ≡ function_of name
    → name ≡ rc_str_bytes c.name → given ≡ is_well_given f (view_arguments c.arguments) → not given ≡ is_bad_call (view_call c)
bad_call_is c name f given ef en eg = rw (eg, ef, en) (sym (ap is_bad_call (view_call_is c)))

pub zeroth_is : (c : Call) (name : List ℕ) (f : Option Function) (given : Bool) → f ≡ function_of name
    → name ≡ rc_str_bytes c.name → given ≡ counts_some f (view_arguments c.arguments) → not given ≡ is_zeroth (view_call c)
zeroth_is c name f given ef en eg = rw (eg, ef, en) (sym (ap is_zeroth (view_call_is c)))
