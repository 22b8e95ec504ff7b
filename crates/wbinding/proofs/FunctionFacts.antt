-- The functions of calls.
use Rattle.std.proofs.Common.{◌≡◌, List, ℕ, Option, Result, Ok, Err, IfOk, ap, sym, ◌∙◌}
use Rattle.std.specs.declared.alloc.AllocError.{AllocError}
use Rattle.std.specs.Rc.{rc_str_bytes}
use Rattle.wquery.specs.declared.expression.Call.{Call}
use Rattle.wquery.specs.Tree.{view_call, view_arguments, view_optional, filter_of}
use Rattle.wscope.specs.declared.function.Function.{Function}
use Rattle.wscope.specs.Functions.{function_of}
use Rattle.wnodes.proofs.Views.{view_call_is}
use Rattle.wplan.specs.declared.resolved.Aggregate.{Aggregate}
use Rattle.wplan.specs.declared.resolved.WindowFunction.{WindowFunction}
use Rattle.wplan.specs.Plans.{aggregate_plan, function_plan}
use Rattle.wbinding.specs.Resolving.{Layout}
use Rattle.wbinding.specs.Functions.{function_made, call_function, aggregated, aggregate_made}

pub function_called : (r : Result WindowFunction AllocError) (l : Layout) (c : Call) (name : List ℕ) (f : Option Function)
    → f ≡ function_of name → name ≡ rc_str_bytes c.name
    → IfOk r (λ x. function_plan x ≡ function_made l f (view_arguments c.arguments)
    (filter_of (view_optional c.filter))) → IfOk r (λ x. function_plan x ≡ call_function l (view_call c))
function_called (Ok x) l c name f ef en h =
    h ∙ ap (λ (o : Option Function). function_made l o (view_arguments c.arguments) (filter_of (view_optional c.filter)))
    (ef ∙ ap function_of en) ∙ sym (ap (call_function l) (view_call_is c))
function_called (Err e) l c name f ef en h = tt

pub aggregate_called : (r : Result Aggregate AllocError) (l : Layout) (c : Call) (name : List ℕ) (f : Option Function)
    → f ≡ function_of name → name ≡ rc_str_bytes c.name
    → IfOk r (λ x. aggregate_plan x ≡ aggregated l f (view_arguments c.arguments) (filter_of (view_optional c.filter)))
    → IfOk r (λ x. aggregate_plan x ≡ aggregate_made l (view_call c))
aggregate_called (Ok x) l c name f ef en h =
    h ∙ ap (λ (o : Option Function). aggregated l o (view_arguments c.arguments) (filter_of (view_optional c.filter)))
    (ef ∙ ap function_of en) ∙ sym (ap (aggregate_made l) (view_call_is c))
aggregate_called (Err e) l c name f ef en h = tt
