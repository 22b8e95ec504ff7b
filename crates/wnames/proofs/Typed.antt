-- Types of the parts of a call.
use Rattle.std.proofs.Common.{◌≡◌, ℕ, ◌<◌, ◌≤◌, Bool, true, ◌&&◌, List, [], ◌∷◌, length}
use Rattle.std.proofs.Common.{get_or, refl, ap, sym, ◌∙◌, arith, Option}
use Rattle.std.specs.Rc.{rc_str_bytes}
use Rattle.wquery.specs.declared.expression.Call.{Call}
use Rattle.wquery.specs.declared.expression.Expression.{Expression}
use Rattle.wquery.specs.Tree.{trees, views, view, view_call, view_arguments, view_optional, view_optional_over, filter_of, reach_of}
use Rattle.wnodes.proofs.Views.{view_call_is}
use Rattle.wscope.specs.declared.function.Function.{Function}
use Rattle.wscope.specs.Functions.{function_of}
use Rattle.wscope.specs.Types.{Titled, type_of, agree}
use Rattle.wnames.specs.Types.{are_typed, is_call_typed, is_filter_typed, is_window_typed, has_fit_default}

pub typed_call : (cs : List Titled) (c : Call) (name : List ℕ) (f : Option Function) (a b w : Bool) → f ≡ function_of name
    → name ≡ rc_str_bytes c.name → a ≡ are_typed cs f (view_arguments c.arguments)
    → b ≡ is_filter_typed cs (filter_of (view_optional c.filter))
    → w ≡ is_window_typed cs (reach_of (view_optional_over c.over)) → (a && (b && w)) ≡ is_call_typed cs (view_call c)
typed_call cs c name f a b w ef en ea eb ew = rw (ea, eb, ew, ef, en) (sym (ap (is_call_typed cs) (view_call_is c)))

pub default_short : (cs : List Titled) (xs : List Expression) → length xs < 3 → has_fit_default cs (trees (views xs)) ≡ true
default_short cs [] h = refl
default_short cs (x ∷ []) h = refl
default_short cs (x ∷ y ∷ []) h = refl
default_short cs (x ∷ y ∷ z ∷ xs) h = absurd (omega arith)

pub default_third : (cs : List Titled) (xs : List Expression) (v d : Expression) → 3 ≤ length xs → v ≡ get_or xs 0 v
    → d ≡ get_or xs 2 d → has_fit_default cs (trees (views xs)) ≡ agree (type_of cs (view v) ∷ type_of cs (view d) ∷ [])
default_third cs [] v d h ev ed = absurd (omega arith)
default_third cs (x ∷ []) v d h ev ed = absurd (omega arith)
default_third cs (x ∷ y ∷ []) v d h ev ed = absurd (omega arith)
default_third cs (x ∷ y ∷ z ∷ xs) v d h ev ed =
    ap (λ (e : Expression). agree (type_of cs (view e) ∷ type_of cs (view z) ∷ [])) (sym ev)
    ∙ ap (λ (e : Expression). agree (type_of cs (view v) ∷ type_of cs (view e) ∷ [])) (sym ed)
